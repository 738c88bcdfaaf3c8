-- Operations, sizes and what holds of a pass, as its board's.
use Rattle.std.proofs.Common.{◌≡◌, ◌≢◌, ◌∙◌, ap, sym, subst, refl, ℕ, ◌+◌, ◌<◌, ◌≤◌, arith, Bool, true, false, true≢false, not, ◌&&◌, ◌||◌, nat_lt, List, [], ◌∷◌, map, length, slice_get, Option, Some, None, is_none, option_map, Result, Ok, Err, if◌then◌else◌, eq-eqb, ne_eqb, ltb-true, lt-ltb}
use Rattle.std.proofs.Common.{inl, inr}
use Rattle.std.specs.Prelude.{IfSome}
use Rattle.std.proofs.lemmas.List.{length-append, length-map, take-append-le}
use Rattle.std.proofs.lemmas.List.Elements.{All-map, All-weaker}
use Rattle.std.proofs.lemmas.Option.{IfSome_then}
use mathlib.Core.Logic.{dite}
use native.Mathlib.Decide.{ℕ_discrete}
use Rattle.atomic_table.specs.Seated.{TableId}
use Rattle.plain_file.specs.declared.operations.Applied.{Applied}
use Rattle.plain_file.specs.declared.operations.Entry.{Entry}
use Rattle.plain_file.specs.declared.operations.First.{First}
use Rattle.plain_file.specs.declared.operations.Op.{Op}
use Rattle.plain_file.specs.declared.refusals.BoardRefusal.{BoardRefusal}
use Rattle.plain_file.specs.declared.refusals.BoardRefusal.TheVariants as refusals
use Rattle.plain_file.specs.File.{after, answer, first_bytes}
use Rattle.plain_file.specs.History.{bytes, size, after_all}
use Rattle.plain_file.specs.Board.{FileView, file_at, bytes_now, size_of as view_size, is_file, file_may_apply, may_apply, file_answer, with_own, entry_of, Applies, IsReady, with_note, noted}
use Rattle.plain_file.specs.Sound.{IsFresh, IsSoundFile, IsSoundBoard}
use Rattle.plain_file.proofs.Grows.{bytes-grown}
use Rattle.files_core.specs.declared.rows.Note.{Note as CoreNote}
use Rattle.files_core.specs.Files.{no_file as no_state, set_size, note_size, FileDeed, on, with_entry}
use Rattle.files_core.specs.Good.{size_of}
use Rattle.files_core.specs.Shown.{Shown}
use Rattle.file_share.specs.Table.{Knows, part, first_at, unseen, nothing_of, only_seen, new_core}
use Rattle.file_share.specs.Steps.{Always}
use Rattle.file_share.specs.Known.{Known, IsApplied, IsUnbarred, Applies as PassApplies, Looked, IsSoundPart, IsFreshNote, applied_part, noted_part, whole_of, whole_seen, size_seen, size_with, first_pass, child_pass, parent_pass}
use Rattle.file_share.specs.Boards.{file_view, note_of, size_noted, floor_after, hands_of, board_of, notes_before, notes_by, has_bar, leases_had, IsFloored, Floored}
use Rattle.file_share.proofs.Places.{get_map}
use Rattle.file_share.proofs.Listing.{first_is, first_only, places_sound, places_rise}
use Rattle.file_share.proofs.Boarding.{count_same, Changed, changed, board_now, floored_now, same_floored, count_is, file_is, hands_now, turn_kept, bar_kept, leases_kept, part_bar}
use Rattle.file_share.proofs.BoardsCore.{one_bar, noted_rises}
use Rattle.file_share.proofs.BoardsFiles.{floor_note, file_applied, file_noted, floored_same, floored_noted}

-- ---- what a file that is ready shows

and_both : (a b : Bool) → (a && b) ≡ true → (a ≡ true) × (b ≡ true)
and_both true b e = (refl, e)
and_both false b e = absurd (true≢false (sym e))

none_is : (o : Option Entry) → is_none o ≡ true → o ≡ None
none_is None e = refl
none_is (Some x) e = absurd (true≢false (sym e))

pub ready_of : (p : Known) (f : ℕ) → f < length p.view.mine.files → IsReady (board_of p) f → ((part p.view f).turn ≡ true) × ((part p.view f).applied ≡ None)
ready_of p f near ready =
    let m : Shown = part p.view f in
    let both = and_both m.turn (is_none m.applied) (sym (ap (λ (x : FileView). x.ready) (file_is p f near)) ∙ ready) in
    (both.0, none_is m.applied both.1)

pub bytes_whole : (p : Known) (f : ℕ) → f < length p.view.mine.files → bytes_now (file_at (board_of p) f) ≡ bytes (first_at p.view f) (whole_seen p.view f) (length (whole_seen p.view f))
unfolding bytes_now
bytes_whole p f near = ap (λ (x : FileView). bytes x.first x.history (length x.history)) (file_is p f near)

seen_is : (m : Shown) → m.applied ≡ None → whole_of m ≡ m.seen
seen_is m bare = ap (with_entry m.seen) bare

bytes_seen : (p : Known) (f : ℕ) → f < length p.view.mine.files → (part p.view f).applied ≡ None → bytes_now (file_at (board_of p) f) ≡ bytes (first_at p.view f) (part p.view f).seen (length (part p.view f).seen)
bytes_seen p f near bare = bytes_whole p f near ∙ ap (λ (h : List Entry). bytes (first_at p.view f) h (length h)) (seen_is (part p.view f) bare)

-- ---- a size that is looked at

module _ (p q : Known) (f z : ℕ) (near : f < length p.view.mine.files) (l : Looked p f z q) where
  pub looks_current : IsReady (board_of p) f → z ≡ view_size (file_at (board_of p) f)
  looks_current ready = l.current (ready_of p f near ready).0 ∙ ap (λ (b : List ℕ). length b) (sym (bytes_whole p f near))

  pub looked : Changed p q f (noted_part z (part p.view f)) (on f note_size ∷ [])
  looked = changed p q f note_size (noted_part z (part p.view f)) near l.deed l.shown

  pub looks : Floored p.view → board_of q ≡ noted (board_of p) f z
  looks was =
      let m : Shown = part p.view f in
      let n : Shown = noted_part z m in
      let ds : List FileDeed = on f note_size ∷ [] in
      let c = looked in
      let has : hands_of q.view ≡ hands_of p.view = hands_now p q f n ds c (hands_of p.view) (turn_kept p q f n ds c refl) (bar_kept p q f n ds c refl) (leases_kept p q f n ds c refl) in
      let is = file_noted p.view.guest (first_at p.view f) f p.view.noted (notes_by f p.view.did) (notes_before f p.view.did) z m (was f near)
      ∙ ap (λ (x : FileView). with_note z x) (sym (file_is p f near)) in
      board_now p q f n ds c (refl, tt) (hands_of p.view) (with_note z (file_at (board_of p) f)) has is

  pub looks_floored : Floored p.view → Floored q.view
  looks_floored was =
      let m : Shown = part p.view f in
      let n : Shown = noted_part z m in
      let once : notes_by f p.view.did + 1 ≡ notes_by f (on f note_size ∷ p.view.did) = sym (ap (λ b. if b then notes_by f p.view.did + 1 else notes_by f p.view.did) (eq-eqb f f refl)) in
      floored_now p q f n (on f note_size ∷ []) looked (refl, tt) was
      (same_floored (notes_by f p.view.did + 1) (notes_by f (on f note_size ∷ p.view.did)) (notes_before f p.view.did) (notes_before f (on f note_size ∷ p.view.did)) n n once refl refl
      (floored_noted (notes_by f p.view.did) (notes_before f p.view.did) m (was f near) z (noted_rises f z Always p.view q.view l.deed.does near l.shown)))

-- ---- an operation

-- the file of the bar is that of which the pass has the bar
barred_is : (v : Knows) (f : ℕ) → f < length v.mine.files → (part v f).bar ≡ true → ((i : ℕ) → i ≢ f → (part v i).bar ≡ false) → is_file (hands_of v).bar f ≡ true
unfolding is_file
barred_is v f near has alone =
    ap (λ o. is_file o f) (first_only 0 f (map has_bar v.mine.files) (subst (λ n. f < n) (sym (length-map v.mine.files has_bar)) near) (part_bar v f ∙ has) (λ i ne. part_bar v i ∙ alone i ne))
    ∙ eq-eqb (0 + f) f (omega arith)

barred_not : (v : Knows) (f : ℕ) → (part v f).bar ≡ false → is_file (hands_of v).bar f ≡ false
unfolding is_file
barred_not v f off = elim (first_is 0 (map has_bar v.mine.files)) [
  | inl (none, is) ↦ ap (λ o. is_file o f) is
  | inr (k, near, on_k, is) ↦ ap (λ o. is_file o f) is ∙ ne_eqb (0 + k) f (λ e. let same : k ≡ f = omega (arith, e) in true≢false (sym (sym (part_bar v k) ∙ on_k) ∙ (ap (λ n. (part v n).bar) same ∙ off)))
]

may_of : (barred falls : Bool) → (falls ≡ true → barred ≡ true) → (barred || not falls) ≡ true
may_of true falls h = refl
may_of false true h = h refl
may_of false false h = refl

module _ (p : Known) (f : ℕ) (op : Op) (near : f < length p.view.mine.files) (ready : IsReady (board_of p) f) where
  size_was : length (bytes_now (file_at (board_of p) f)) ≡ size_seen p.view f
  size_was = ap (λ (b : List ℕ). length b) (bytes_seen p f near (ready_of p f near ready).1)

  size_then : length (after (bytes_now (file_at (board_of p) f)) op) ≡ size_with p.view f (entry_of (board_of p) op)
  size_then = ap (λ (b : List ℕ). length (after b op)) (bytes_seen p f near (ready_of p f near ready).1)
      ∙ ap (λ (b : List ℕ). length b) (sym (bytes-grown (first_at p.view f) (part p.view f).seen (entry_of (board_of p) op)))

  falls_is : nat_lt (length (after (bytes_now (file_at (board_of p) f)) op)) (length (bytes_now (file_at (board_of p) f))) ≡ nat_lt (size_with p.view f (entry_of (board_of p) op)) (size_seen p.view f)
  falls_is = λ i. nat_lt (size_then i) (size_was i)

  may_is : may_apply (board_of p) f op ≡ (is_file (hands_of p.view).bar f || not (nat_lt (size_with p.view f (entry_of (board_of p) op)) (size_seen p.view f)))
  unfolding file_may_apply
  may_is = ap (λ b. is_file (hands_of p.view).bar f || not b) falls_is

  applying : (a : Applied) (q : Known) → IsApplied p f (entry_of (board_of p) op) a q → Changed p q f (applied_part (entry_of (board_of p) op) (part p.view f)) (on f (set_size (entry_of (board_of p) op)) ∷ [])
  applying a q d = changed p q f (set_size (entry_of (board_of p) op)) (applied_part (entry_of (board_of p) op) (part p.view f)) near d.deed d.shown

  may_ok : (a : Applied) (q : Known) → IsApplied p f (entry_of (board_of p) op) a q → may_apply (board_of p) f op ≡ true
  may_ok a q d = may_is ∙ may_of (is_file (hands_of p.view).bar f) (nat_lt (size_with p.view f (entry_of (board_of p) op)) (size_seen p.view f))
      (λ low. let has = d.may (ltb-true (size_with p.view f (entry_of (board_of p) op)) (size_seen p.view f) low) in
      barred_is p.view f near has (one_bar f (set_size (entry_of (board_of p) op)) Always p.view q.view d.deed.does has))

  answer_ok : (a : Applied) (q : Known) → IsApplied p f (entry_of (board_of p) op) a q → a ≡ file_answer (file_at (board_of p) f) op
  unfolding file_answer
  answer_ok a q d =
      let bare = (ready_of p f near ready).1 in
      let history = sym (ap (λ (x : FileView). x.history) (file_is p f near) ∙ seen_is (part p.view f) bare) in
      let now = sym (bytes_seen p f near bare) in
      d.answer ∙ (λ i. record { place = length (history i); answer = answer (now i) op })

  applies_ok : (a : Applied) (q : Known) → IsApplied p f (entry_of (board_of p) op) a q → Applies (board_of p) f op (Ok a) (board_of q)
  applies_ok a q d =
      let m : Shown = part p.view f in
      let x : Entry = entry_of (board_of p) op in
      let n : Shown = applied_part x m in
      let ds : List FileDeed = on f (set_size x) ∷ [] in
      let c = applying a q d in
      let has : hands_of q.view ≡ hands_of p.view = hands_now p q f n ds c (hands_of p.view) (turn_kept p q f n ds c refl) (bar_kept p q f n ds c refl) (leases_kept p q f n ds c refl) in
      let is = file_applied p.view.guest (first_at p.view f) f p.view.noted (notes_before f p.view.did) m x (ready_of p f near ready).1 refl
      ∙ ap (λ (y : FileView). with_own false x y) (sym (file_is p f near)) in
      (may_ok a q d, answer_ok a q d, board_now p q f n ds c (refl, tt) (hands_of p.view) (with_own false x (file_at (board_of p) f)) has is)

  applies_barred : (z : ℕ) (q : Known) → IsUnbarred p f (entry_of (board_of p) op) z → q ≡ p → Applies (board_of p) f op (Err (refusals.Unbarred z)) (board_of q)
  applies_barred z q u same = (
    may_is ∙ (λ i. barred_not p.view f u.unbarred i || not (lt-ltb (size_with p.view f (entry_of (board_of p) op)) (size_seen p.view f) u.lowers i)),
    u.size_is ∙ sym size_was,
    ap board_of same,
  )

  pub applies : (r : Result Applied BoardRefusal) (q : Known) → PassApplies p f (entry_of (board_of p) op) r q → Applies (board_of p) f op r (board_of q)
  applies (Ok a) q d = applies_ok a q d
  applies (Err (refusals.Unbarred z)) q d = applies_barred z q d.0 d.1
  applies (Err refusals.Memory) q d = ap board_of d

  pub applies_floored : (r : Result Applied BoardRefusal) (q : Known) → PassApplies p f (entry_of (board_of p) op) r q → Floored p.view → Floored q.view
  applies_floored (Ok a) q d was =
      let m : Shown = part p.view f in
      let x : Entry = entry_of (board_of p) op in
      floored_now p q f (applied_part x m) (on f (set_size x) ∷ []) (applying a q d) (refl, tt) was (floored_same (notes_by f p.view.did) (notes_before f p.view.did) m (was f near) (applied_part x m) refl refl refl)
  applies_floored (Err (refusals.Unbarred z)) q d was = subst (λ (k : Known). Floored k.view) (sym d.1) was
  applies_floored (Err refusals.Memory) q d was = subst (λ (k : Known). Floored k.view) (sym d) was

  pub applies_table : (r : Result Applied BoardRefusal) (q : Known) → PassApplies p f (entry_of (board_of p) op) r q → q.table ≡ p.table
  applies_table (Ok a) q d = ap (λ (k : Known). k.table) d.deed.kept
  applies_table (Err (refusals.Unbarred z)) q d = ap (λ (k : Known). k.table) d.1
  applies_table (Err refusals.Memory) q d = ap (λ (k : Known). k.table) d

  pub applies_count : (r : Result Applied BoardRefusal) (q : Known) → PassApplies p f (entry_of (board_of p) op) r q → length q.view.mine.files ≡ length p.view.mine.files
  applies_count (Ok a) q d = count_same p q f (applied_part (entry_of (board_of p) op) (part p.view f)) (on f (set_size (entry_of (board_of p) op)) ∷ []) (applying a q d)
  applies_count (Err (refusals.Unbarred z)) q d = ap (λ (k : Known). length k.view.mine.files) d.1
  applies_count (Err refusals.Memory) q d = ap (λ (k : Known). length k.view.mine.files) d

-- ---- what holds of every pass

size_front : (first : First) (h : List Entry) (o : Option Entry) (n : ℕ) → n ≤ length h → size first (with_entry h o) n ≡ size first h n
unfolding bytes
size_front first h None n within = refl
size_front first h (Some e) n within = ap (λ (es : List Entry). length (after_all (first_bytes first) es)) (take-append-le n h (e ∷ []) within)

with_long : (h : List Entry) (o : Option Entry) → length h ≤ length (with_entry h o)
with_long h None = omega arith
with_long h (Some e) = let l = length-append h (e ∷ []) in omega (arith, l)

fresh_whole : (first : First) (m : Shown) (n : CoreNote) → IsFreshNote first m.seen n → IfSome n.upper (λ u. IsFresh first (whole_of m) n.lower u n.size)
fresh_whole first m n h = IfSome_then n.upper h (λ u (k, above, below, within, is).
    let long = with_long m.seen m.applied in
    (k, above, below, omega (arith, within, long), is ∙ sym (size_front first m.seen m.applied k (omega (arith, below, within)))))

floor_low : (k made z : ℕ) (m : Shown) → IsFloored made k m → IfSome m.noted (λ y. y ≤ z) → IfSome (floor_after k m) (λ y. y ≤ z)
floor_low k made z m was low = dite (ℕ_discrete m.leases 0)
    (λ e. subst (λ (o : Option ℕ). IfSome o (λ y. y ≤ z)) (sym (ap (λ b. if b then None else option_map size_noted (slice_get m.notes k)) (eq-eqb m.leases 0 e))) tt)
    (λ ne. let (n, y, at, end, under) = floor_note made k m was (omega (arith, ne)) in
    let above : y ≤ z = subst (λ (o : Option ℕ). IfSome o (λ x. x ≤ z)) end low in
    subst (λ (o : Option ℕ). IfSome o (λ x. x ≤ z)) (sym (ap (λ b. if b then None else option_map size_noted (slice_get m.notes k)) (ne_eqb m.leases 0 ne) ∙ ap (λ (o : Option CoreNote). option_map size_noted o) at)) (omega (arith, under, above)))

sound_file : (v : Knows) (f : ℕ) → IsFloored (notes_by f v.did) (notes_before f v.did) (part v f) → IsSoundPart (first_at v f) (part v f) → IsSoundFile v.guest false (file_view v f)
unfolding bytes_now
sound_file v f was s = let m : Shown = part v f in record {
  ready = λ e. absurd (true≢false (sym e));
  own = places_sound v.guest (whole_of m);
  rising = places_rise v.guest 0 (whole_of m);
  notes = All-map (λ n. IfSome n.upper (λ u. IsFresh (first_at v f) (whole_of m) n.lower u n.size)) note_of m.notes (All-weaker (IsFreshNote (first_at v f) m.seen) (λ n. IfSome n.upper (λ u. IsFresh (first_at v f) (whole_of m) n.lower u n.size)) (fresh_whole (first_at v f) m) m.notes s.notes);
  floor = λ e r. floor_low (notes_before f v.did) (notes_by f v.did) (size_of (first_at v f) (whole_of m)) m was (s.noted (and_both m.turn (is_none m.applied) r).0);
  small = s.small;
}

pub sound_board : (p : Known) (f : ℕ) → f < length p.view.mine.files → Floored p.view → IsSoundPart (first_at p.view f) (part p.view f) → IsSoundBoard (board_of p) f
sound_board p f near was s = record {
  alone = λ e. absurd (true≢false (sym e));
  counted = length-map p.view.mine.files leases_had ∙ sym (count_is p);
  sound = subst (λ (x : FileView). IsSoundFile p.view.guest false x) (sym (file_is p f near)) (sound_file p.view f (was f near) s);
}

-- a pass that did nothing has noted nothing
pub unleased_floored : (v : Knows) → v.did ≡ [] → ((f : ℕ) → ((part v f).leases ≡ 0) × ((part v f).notes ≡ [])) → Floored v
unleased_floored v did none f near = let z = (none f).0 in record {
  counted = ap (notes_by f) did ∙ sym (ap (λ (ns : List CoreNote). length ns) (none f).1);
  there = λ some. absurd (omega (arith, some, z));
  ended = λ some. absurd (omega (arith, some, z));
  under = λ some n y at end. absurd (omega (arith, some, z));
}

-- the first pass of a table did nothing, nor did one that was split off
pub first_floored : (t : TableId) (firsts : List First) (leasers : ℕ) → Floored (first_pass t firsts leasers).view
first_floored t firsts leasers = unleased_floored (first_pass t firsts leasers).view refl
    (λ f. let is = get_map nothing_of (new_core firsts leasers).files f no_state in (ap (λ (m : Shown). m.leases) is, ap (λ (m : Shown). m.notes) is))

pub child_floored : (p : Known) (n : ℕ) → Floored (child_pass p n).view
child_floored p n = unleased_floored (child_pass p n).view refl
    (λ f. let is = get_map only_seen p.view.mine.files f unseen in (ap (λ (m : Shown). m.leases) is, ap (λ (m : Shown). m.notes) is))

-- one that gave another out knows what it did
pub parent_floored : (p : Known) (n : ℕ) → Floored p.view → Floored (parent_pass p n).view
parent_floored p n was = was
