-- A pass stays sound.
use Rattle.std.proofs.Common.{◌≡◌, ◌≢◌, ℕ, zero, suc, ◌-◌, ◌<◌, ◌≤◌, List, [], ◌∷◌, ◌++◌, map, length, get_or, slice_get, true, false, Bool, true≢false, Option, Some, None, refl, sym, ap, ◌∙◌, subst, arith, get_or-set_same, get_or-set_other, length-set}
use Rattle.std.specs.Prelude.{IfSome, All}
use mathlib.Core.Logic.{dite}
use native.Mathlib.Decide.{ℕ_discrete}
use Rattle.std.proofs.lemmas.List.{take-append-le, length-append}
use Rattle.std.proofs.lemmas.List.Elements.{All-map, All-weaker, All-push}
use Rattle.std.proofs.lemmas.Option.{IfSome_then}
use lib.ListN.{get_elem?}
use Rattle.atomic_table.specs.Seated.{TableId}
use Rattle.seats.specs.Views.{guests}
use Rattle.plain_file.specs.declared.operations.Entry.{Entry}
use Rattle.plain_file.specs.declared.operations.First.{First}
use Rattle.plain_file.specs.Board.{is_file, last_of}
use Rattle.plain_file.specs.File.{first_bytes}
use Rattle.plain_file.specs.History.{Past, bytes, size, after_all}
use Rattle.plain_file.specs.Sound.{IsFresh}
use Rattle.files_core.specs.declared.rows.Note.{Note}
use Rattle.files_core.specs.Files.{FileState, row, file, with_entry, whole, ended_at, upper_or, note, noted_after, noted_left, Deed, on}
use Rattle.files_core.specs.Good.{GoodFile, NoteOk, size_of}
use Rattle.files_core.specs.Shown.{Shown, shown_of}
use Rattle.file_share.specs.Table.{Core, Mine, in_list, part, unseen, first_in, first_at}
use Rattle.file_share.specs.Steps.{Chair, DoesOn, Never, NoTurn}
use Rattle.file_share.specs.Known.{IsShown, IsSoundPart, IsFreshNote, InHand, Holds, Sound, taken_part, noted_part, leased_part, unleased_part, barred_part, given_part, whole_of, whole_seen}
use Rattle.file_share.specs.Places.{places_of}
use Rattle.file_share.proofs.Knowing.{guest_kept, live_kept, numbers_kept}

get_it : {A : Type 0} (l : List A) (k : ℕ) (d : A) → k < length l → slice_get l k ≡ Some (get_or l k d)
get_it [] k d lt = absurd (omega arith)
get_it (x ∷ xs) zero d lt = refl
get_it (x ∷ xs) (suc k) d lt = get_it xs k d (omega arith)

-- ---- notes

-- the size at a length of a history stays when more comes
size_front : (first : First) (h more : List Entry) (n : ℕ) → n ≤ length h → size first (h ++ more) n ≡ size first h n
unfolding bytes
size_front first h more n within = ap (λ (es : List Entry). length (after_all (first_bytes first) es)) (take-append-le n h more within)

pub fresh_longer : (first : First) (h more : List Entry) (n : Note) → IsFreshNote first h n → IsFreshNote first (h ++ more) n
fresh_longer first h more n x = IfSome_then n.upper x (λ u (k, above, below, within, is).
    let long = length-append h more in (k, above, below, omega arith, is ∙ sym (size_front first h more k (omega arith))))

-- a note that gets its end now
note_now : (first : First) (h seen : List Entry) (n : Note) → NoteOk first h n → IsFreshNote first h n → IsFreshNote first h (ended_at (length h) n)
note_now first h seen n ok x = go n.upper refl x
  where
    go : (o : Option ℕ) → n.upper ≡ o → IfSome o (λ u. IsFresh first h n.lower u n.size) → IfSome (upper_or (length h) o) (λ u. IsFresh first h n.lower u n.size)
    go None e y = (ok.at, ok.above, ok.within, omega arith, ok.is)
    go (Some u) e y = y

-- ---- parts

module _ (first : First) (m : Shown) (ok : IsSoundPart first m) where
  pub ok_leased : IsSoundPart first (leased_part m)
  ok_leased = record { notes = ok.notes; small = ok.small; noted = ok.noted; bare = ok.bare }

  left_ok : (n : ℕ) (o : Option ℕ) (Q : ℕ → Type 0) → IfSome o Q → IfSome (noted_left n o) Q
  left_ok zero o Q h = tt
  left_ok (suc n) o Q h = h

  pub ok_unleased : IsSoundPart first (unleased_part m)
  ok_unleased = record { notes = ok.notes; small = ok.small; noted = λ t. left_ok (m.leases - 1) m.noted (λ z. z ≤ size_of first (whole_of m)) (ok.noted t); bare = ok.bare }

  pub ok_barred : (bar : Bool) → IsSoundPart first (barred_part bar m)
  ok_barred bar = record { notes = ok.notes; small = ok.small; noted = ok.noted; bare = ok.bare }

  after_ok : (n z : ℕ) (o : Option ℕ) (Q : ℕ → Type 0) → IfSome o Q → Q z → IfSome (noted_after n z o) Q
  after_ok zero z o Q h q = h
  after_ok (suc n) z o Q h q = q

  pub ok_noted : (z : ℕ) → (m.turn ≡ true → z ≡ size_of first (whole_of m)) → IsSoundPart first (noted_part z m)
  ok_noted z current = record {
    notes = All-push (IsFreshNote first m.seen) m.notes (note z (length (whole_of m))) ok.notes tt;
    small = ok.small;
    noted = λ t. after_ok m.leases z m.noted (λ x. x ≤ size_of first (whole_of m)) (ok.noted t) (let e = current t in omega arith);
    bare = ok.bare;
  }

-- the turn was taken
pub ok_taken : (c : FileState) (g : ℕ) (first : First) (m : Shown) (more : List Entry) → g < guests → GoodFile guests c → c.turn ≡ None → m ≡ shown_of g c → first ≡ c.first → m.seen ++ more ≡ c.history → m.applied ≡ None → IsSoundPart first m → IsSoundPart first (taken_part more m)
ok_taken c g first m more l good free is begins all bare ok =
    let h = c.history in
    let idle : whole c ≡ h = ap (with_entry h) (none_yet c.applied good.applied_is) in
    let whole_is : size_of first (m.seen ++ more) ≡ c.size = (λ i. size_of (begins i) (all i)) ∙ (sym (ap (size_of c.first) idle) ∙ sym good.size_is) in
    let notes_are : m.notes ≡ (row c g).notes = ap (λ (x : Shown). x.notes) is in
    let small = good.size_small in record {
      notes = subst (λ (x : List Entry). All (IsFreshNote first x) (map (ended_at (length x)) m.notes)) (sym all) (All-map (IsFreshNote first h) (ended_at (length h)) m.notes
          (λ k d lt. note_now first h m.seen (get_or m.notes k d)
          (subst (λ (z : First × List Entry). NoteOk z.0 z.1 (get_or m.notes k d)) (λ i. (sym begins i, idle i)) (good.notes_ok g k (get_or m.notes k d) (ap (λ (ns : List Note). slice_get ns k) (sym notes_are) ∙ get_it m.notes k d lt)))
          (subst (λ (x : List Entry). IsFreshNote first x (get_or m.notes k d)) all (fresh_longer first m.seen more (get_or m.notes k d) (ok.notes k d lt)))));
      small = let e = whole_is in omega arith;
      noted = λ _. IfSome_then m.noted (subst (λ (o : Option ℕ). IfSome o (λ z. (z ≤ c.size) × (0 < (row c g).leases))) (sym (ap (λ (x : Shown). x.noted) is)) (good.rows_ok g l).noted) (λ z h. let a = h.0 in let e = whole_is in omega arith);
      bare = λ t. absurd (true≢false t);
    }
  where
    none_yet : (o : Option Entry) → IfSome o (λ e. c.turn ≡ Some e.guest) → o ≡ None
    none_yet None x = refl
    none_yet (Some e) x = absurd (let y : None ≡ Some e.guest = sym free ∙ x in cc)

-- in the turn of a good file
pub ok_in_turn : (c : FileState) (g : ℕ) (first : First) (m : Shown) → g < guests → GoodFile guests c → m ≡ shown_of g c → first ≡ c.first → c.size ≡ size_of first (whole_of m) → m.turn ≡ true → All (IsFreshNote first m.seen) m.notes → IsSoundPart first m
ok_in_turn c g first m l good is begins size_is on notes = record {
  notes = notes;
  small = let s = good.size_small in let e = size_is in omega arith;
  noted = λ _. IfSome_then m.noted (subst (λ (o : Option ℕ). IfSome o (λ z. (z ≤ c.size) × (0 < (row c g).leases))) (sym (ap (λ (x : Shown). x.noted) is)) (good.rows_ok g l).noted) (λ z h. let a = h.0 in let e = size_is in omega arith);
  bare = λ t. absurd (true≢false (sym on ∙ t));
}

-- the turn was given back
pub ok_given : (first : First) (m : Shown) → IsSoundPart first m → IsSoundPart first (given_part m)
ok_given first m ok = record {
  notes = All-weaker (IsFreshNote first m.seen) (IsFreshNote first (whole_of m)) (λ n x. longer m.applied n x) m.notes ok.notes;
  small = ok.small;
  noted = λ t. absurd (true≢false (sym t));
  bare = λ _. refl;
}
  where
    longer : (o : Option Entry) (n : Note) → IsFreshNote first m.seen n → IsFreshNote first (with_entry m.seen o) n
    longer None n x = x
    longer (Some e) n x = fresh_longer first m.seen (e ∷ []) n x

-- ---- the whole pass

module _ (s t : Chair) (f : ℕ) (d : Deed) (P : Core → Type 0) (does : DoesOn f d P s.me.0 t.me.0) (m : Shown) (shown : IsShown f m s.me.0 t.me.0) (near : f < length s.me.0.mine.files) (table : t.table_id ≡ s.table_id) where
  pub part_here : part t.me.0 f ≡ m
  part_here = ap (λ (x : Mine). in_list x.files f) shown ∙ get_or-set_same s.me.0.mine.files f m unseen near

  pub part_else : (i : ℕ) → i ≢ f → part t.me.0 i ≡ part s.me.0 i
  part_else i ne = ap (λ (x : Mine). in_list x.files i) shown ∙ get_or-set_other s.me.0.mine.files f i m unseen ne

  pub firsts_same : (i : ℕ) → first_at t.me.0 i ≡ first_at s.me.0 i
  firsts_same i = ap (λ (x : Mine). first_in x.firsts i) shown

  pub count_same : length t.me.0.mine.files ≡ length s.me.0.mine.files
  count_same = ap (λ (x : Mine). length x.files) shown ∙ length-set s.me.0.mine.files f m

  -- of each file, by whether it is this one
  by_file : (F : ℕ → Shown → Type 0) → F f m → ((i : ℕ) → i ≢ f → F i (part s.me.0 i)) → (i : ℕ) → F i (part t.me.0 i)
  by_file F now rest i = dite (ℕ_discrete i f)
      (λ e. subst (λ (n : ℕ). F n (part t.me.0 n)) (sym e) (subst (F f) (sym part_here) now))
      (λ ne. subst (F i) (sym (part_else i ne)) (rest i ne))

  module _ (hand hand' : Option Past) (file file' guest : ℕ) (bar bar' : Option ℕ) (last last' : List (Option ℕ)) (ok : Sound s hand file guest bar last) where
    pub sound_after : length last' ≡ 64 → InHand t file' hand' → m.bar ≡ is_file bar' f → ((i : ℕ) → i ≢ f → is_file bar' i ≡ is_file bar i)
        → get_or last' f None ≡ last_of (places_of guest (whole_of m)) → ((i : ℕ) → i ≢ f → get_or last' i None ≡ get_or last i None)
        → IsSoundPart (first_at s.me.0 f) m → Never s.me.0.numbers (whole_of m) → Sound t hand' file' guest bar' last'
    sound_after long in_hand bar_now bar_else last_now last_else part_ok never = record {
      live = live_kept f d P s.me.0 t.me.0 does ∙ ok.live;
      guest_is = ok.guest_is ∙ sym (guest_kept f d P s.me.0 t.me.0 does);
      small = ok.small;
      in_hand = in_hand;
      wide = count_same ∙ (ok.wide ∙ ap (λ z. z.slots) (sym table));
      few = subst (λ (z : TableId). z.slots ≤ 64) (sym table) ok.few;
      bar_is = by_file (λ i x. x.bar ≡ is_file bar' i) bar_now (λ i ne. ok.bar_is i ∙ sym (bar_else i ne));
      long = long;
      last_is = λ i l. by_file (λ i x. i < length s.me.0.mine.files → get_or last' i None ≡ last_of (places_of guest (whole_of x))) (λ _. last_now) (λ i ne l. last_else i ne ∙ ok.last_is i l) i (let e = count_same in omega arith);
      parts_ok = λ i l. subst (λ (x : First). IsSoundPart x (part t.me.0 i)) (sym (firsts_same i))
          (by_file (λ i x. i < length s.me.0.mine.files → IsSoundPart (first_at s.me.0 i) x) (λ _. part_ok) (λ i ne l. ok.parts_ok i l) i (let e = count_same in omega arith));
      never = λ i. subst (λ ns. Never ns (whole_of (part t.me.0 i))) (sym (numbers_kept f d P s.me.0 t.me.0 does)) (by_file (λ i x. Never s.me.0.numbers (whole_of x)) never (λ i ne. ok.never i) i);
      own_given = λ is. ok.own_given (sym (λ i. get_elem? (numbers_kept f d P s.me.0 t.me.0 does i) (guest_kept f d P s.me.0 t.me.0 does i)) ∙ is);
    }

    -- what is in hand stays, where neither the turn nor what is known of the history has changed
    pub in_same : m.turn ≡ (part s.me.0 f).turn → whole_of m ≡ whole_seen s.me.0 f → t.me.1 ≡ s.me.1 → (o : Option Past) → InHand s file o → InHand t file o
    in_same turn whole_is held None h = (by_file (λ i x. x.turn ≡ false) (turn ∙ h.0 f) (λ i ne. h.0 i), held ∙ h.1)
    in_same turn whole_is held (Some p) h = record {
      turn = by_file (λ i x. (part s.me.0 i).turn ≡ true → x.turn ≡ true) (λ on. turn ∙ on) (λ i ne on. on) file h.turn;
      alone = λ i ne. by_file (λ i x. (part s.me.0 i).turn ≡ false → x.turn ≡ false) (λ off. turn ∙ off) (λ i ne off. off) i (h.alone i ne);
      taken = held ∙ h.taken;
      first = h.first ∙ sym (firsts_same file);
      history = h.history ∙ sym (by_file (λ i x. whole_of x ≡ whole_seen s.me.0 i) whole_is (λ i ne. refl) file);
    }

  -- the contents in hand, once the turn was taken
  pub in_taken : (b : Past) → m.turn ≡ true → NoTurn s.me.0 → t.me.1 ≡ (f, None) ∷ [] → b.first ≡ first_at s.me.0 f → b.history ≡ whole_of m → InHand t f (Some b)
  in_taken b on free held begins history = record {
    turn = ap (λ (x : Shown). x.turn) part_here ∙ on;
    alone = λ i ne. ap (λ (x : Shown). x.turn) (part_else i ne) ∙ free i;
    taken = held;
    first = begins ∙ sym (firsts_same f);
    history = history ∙ sym (ap whole_of part_here);
  }

  -- nothing is, once it was given back
  pub in_given : (p : Past) → Holds s f p → m.turn ≡ false → t.me.1 ≡ [] → (file : ℕ) → InHand t file None
  in_given p h off held file = (by_file (λ i x. x.turn ≡ false) off (λ i ne. h.alone i ne), held)
