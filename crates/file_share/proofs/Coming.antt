-- Passes that are new, that gave a number out, and that took another in, are sound.
use Rattle.std.proofs.Common.{◌≡◌, ◌≢◌, ℕ, zero, suc, ◌<◌, ◌≤◌, List, [], ◌∷◌, ◌++◌, map, length, drop, get_or, set, slice_get, replicate, leb, cond, Bool, true, false, true≢false, Option, Some, None, refl, sym, ap, ◌∙◌, subst, arith, ⊎_elim}
use Rattle.std.specs.Prelude.{All}
use mathlib.Core.Logic.{dite}
use native.Mathlib.Decide.{dec_lt}
use lib.ListN.{get_elem?, length-map}
use mathlib.Core.Option.{some, some-injective, some-ne-none}
use Rattle.std.proofs.lemmas.List.{get_or-replicate, length-replicate}
use Rattle.std.proofs.lemmas.List.Elements.{All-nil, All-weaker}
use Rattle.atomic_table.proofs.Lists.{at_set, set_here}
use Rattle.atomic_table.specs.Seated.{TableId}
use Rattle.seats.specs.Views.{guests, root, unused, opened, out, back, parent, child, joined}
use Rattle.plain_file.specs.declared.operations.Entry.{Entry}
use Rattle.plain_file.specs.declared.operations.First.{First}
use Rattle.plain_file.specs.Board.{is_file, last_of}
use Rattle.plain_file.specs.File.{max_file}
use Rattle.plain_file.specs.History.{Past}
use Rattle.files_core.specs.Files.{FileState, no_file, file, with_entry, new_file, new_files}
use Rattle.files_core.specs.Good.{GoodFile, Within, size_of}
use Rattle.files_core.specs.Shown.{Shown}
use Rattle.files_core.proofs.Starts.{files_start}
use Rattle.file_share.specs.Table.{Mine, Marks, Begun, Grown, part, in_list, first_of, first_in, first_at, unseen, nothing_of, only_seen, just_seen, merged, merged_files, opener}
use Rattle.file_share.specs.Steps.{Chair, Never, NoTurn}
use Rattle.file_share.specs.Known.{IsSoundPart, IsFreshNote, InHand, Sound, no_last, whole_of, whole_seen}
use Rattle.file_share.specs.Places.{places_of}
use Rattle.file_share.proofs.Places.{get_map}
use Rattle.file_share.proofs.Listing.{places_others}
use Rattle.file_share.proofs.Sounding.{fresh_longer}
use Rattle.file_share.proofs.Calling.{none_behind}

last_none : (f : ℕ) → get_or no_last f None ≡ None
last_none f = dite (dec_lt f 64) (λ l. get_or-replicate 64 f None None l) (λ past. beyond 64 f past)
  where
    beyond : (n f : ℕ) → (f < n → ⊥) → get_or (replicate {A = Option ℕ} n None) f None ≡ None
    beyond zero f past = refl
    beyond (suc n) zero past = absurd (past (omega arith))
    beyond (suc n) (suc f) past = beyond n f (λ l. past (omega arith))

no_bar : (f : ℕ) → false ≡ is_file None f
unfolding is_file
no_bar f = refl

-- ---- the first pass of a table

first_size : (firsts : List First) → All (λ (x : First). x.size ≤ max_file) firsts → (f : ℕ) → f < length firsts → size_of (file (new_files guests firsts) f).first [] ≤ max_file
first_size firsts small f near = let good = (files_start guests firsts small).files_ok f (let l = length-map firsts (new_file guests) in omega arith) in
    go firsts f near good
  where
    go : (fs : List First) (f : ℕ) → f < length fs → GoodFile guests (file (new_files guests fs) f) → size_of (file (new_files guests fs) f).first [] ≤ max_file
    go [] f l good = absurd (omega arith)
    go (x ∷ xs) zero l good = let a = good.size_is in let b = good.size_small in omega arith
    go (x ∷ xs) (suc f) l good = go xs f (omega arith) good

nothing_at : (cs : List FileState) (f : ℕ) → in_list (map nothing_of cs) f ≡ unseen
nothing_at cs f = get_map nothing_of cs f no_file

pub sound_first : (t : Chair) (firsts : List First) (leasers : ℕ) → t.me ≡ (opener firsts leasers, []) → t.table_id.slots ≡ length firsts → length firsts ≤ 64 → All (λ (x : First). x.size ≤ max_file) firsts → Sound t None 0 root None no_last
sound_first t firsts leasers is slots few small =
    let cs = new_files guests firsts in
    let at : (f : ℕ) → part t.me.0 f ≡ unseen = λ f. ap (λ m. part m.0 f) is ∙ nothing_at cs f in
    let many : length t.me.0.mine.files ≡ length firsts = ap (λ m. length m.0.mine.files) is ∙ (length-map cs nothing_of ∙ length-map firsts (new_file guests)) in record {
      live = ap (λ m. m.0.live) is;
      guest_is = sym (ap (λ m. m.0.guest) is);
      small = omega arith;
      in_hand = ((λ f. ap (λ (m : Shown). m.turn) (at f)), ap (λ m. m.1) is);
      wide = many ∙ sym slots;
      few = let e = slots in omega arith;
      bar_is = λ f. ap (λ (m : Shown). m.bar) (at f) ∙ no_bar f;
      long = length-replicate {A = Option ℕ} 64 None;
      last_is = λ f l. last_none f ∙ sym (ap (λ (m : Shown). last_of (places_of root (whole_of m))) (at f));
      parts_ok = λ f l. subst (λ (z : First × Shown). IsSoundPart z.0 z.1) (λ i. (sym (ap (λ m. first_at m.0 f) is ∙ get_map first_of cs f no_file) i, sym (at f) i)) record {
        notes = All-nil (IsFreshNote (file cs f).first []);
        small = first_size firsts small f (let m = many in omega arith);
        noted = λ e. absurd (true≢false (sym e));
        bare = λ _. refl;
      };
      never = λ f. subst (λ (m : Shown). Never t.me.0.numbers (whole_of m)) (sym (at f)) (λ n _ k e a _. absurd (none_in k e a));
      own_given = λ e. let x = sym (ap (λ m. get_elem? m.0.numbers m.0.guest) is) ∙ e in let y : opened ≡ unused = some-injective _ _ (sym (set_here (replicate guests unused) root opened (omega arith)) ∙ x) in absurd (cc);
    }
  where
    none_in : (k : ℕ) (e : Entry) → slice_get [] k ≡ Some e → ⊥
    none_in k e a = cc

-- ---- a pass that was split off

module _ (s t : Chair) (n : ℕ) (hand : Option Past) (file' guest : ℕ) (bar : Option ℕ) (last : List (Option ℕ)) (ok : Sound s hand file' guest bar last) (free : NoTurn s.me.0) (given : get_elem? s.me.0.numbers n ≡ some unused) where
  plain_seen : (f : ℕ) → f < length s.me.0.mine.files → whole_seen s.me.0 f ≡ (part s.me.0 f).seen
  plain_seen f l = ap (with_entry (part s.me.0 f).seen) ((ok.parts_ok f l).bare (free f))

  only_at : (f : ℕ) → in_list (map only_seen s.me.0.mine.files) f ≡ only_seen (part s.me.0 f)
  only_at f = get_map only_seen s.me.0.mine.files f unseen

  no_own : (f : ℕ) → f < length s.me.0.mine.files → places_of n (part s.me.0 f).seen ≡ []
  no_own f l = places_others n 0 [] (part s.me.0 f).seen (none_behind n 0 (part s.me.0 f).seen (subst (Within n 0) (plain_seen f l) (ok.never f n given)))

  pub sound_child : n < guests → t.me ≡ (child just_seen [] s.me.0 n, []) → t.table_id ≡ s.table_id → Sound t None 0 n None no_last
  sound_child small is table =
      let at : (f : ℕ) → part t.me.0 f ≡ only_seen (part s.me.0 f) = λ f. ap (λ m. part m.0 f) is ∙ only_at f in
      let many : length t.me.0.mine.files ≡ length s.me.0.mine.files = ap (λ m. length m.0.mine.files) is ∙ length-map s.me.0.mine.files only_seen in record {
        live = ap (λ m. m.0.live) is;
        guest_is = sym (ap (λ m. m.0.guest) is);
        small = small;
        in_hand = ((λ f. ap (λ (m : Shown). m.turn) (at f)), ap (λ m. m.1) is);
        wide = many ∙ (ok.wide ∙ ap (λ z. z.slots) (sym table));
        few = subst (λ (z : TableId). z.slots ≤ 64) (sym table) ok.few;
        bar_is = λ f. ap (λ (m : Shown). m.bar) (at f) ∙ no_bar f;
        long = length-replicate {A = Option ℕ} 64 None;
        last_is = λ f l. last_none f ∙ sym (ap (λ (m : Shown). last_of (places_of n (whole_of m))) (at f) ∙ ap last_of (no_own f (let m = many in omega arith)));
        parts_ok = λ f l. let near : f < length s.me.0.mine.files = (let m = many in omega arith) in
            subst (λ (z : First × Shown). IsSoundPart z.0 z.1) (λ i. (sym (ap (λ m. first_at m.0 f) is) i, sym (at f) i)) record {
              notes = All-nil (IsFreshNote (first_at s.me.0 f) (part s.me.0 f).seen);
              small = subst (λ (h : List Entry). size_of (first_at s.me.0 f) h ≤ max_file) (plain_seen f near) (ok.parts_ok f near).small;
              noted = λ e. absurd (true≢false (sym e));
              bare = λ _. refl;
            };
        never = λ f. subst (λ (ns : Marks). Never ns (whole_seen t.me.0 f)) (sym (ap (λ m. m.0.numbers) is)) (λ m x. absurd (some-ne-none unused (sym x)));
        own_given = λ e. absurd (some-ne-none unused (sym e ∙ ap (λ m. get_elem? m.0.numbers m.0.guest) is));
      }

  -- the first pass, once it gave the number out
  pub sound_parent : t.me ≡ (parent s.me.0 n, s.me.1) → t.table_id ≡ s.table_id → Sound t hand file' guest bar last
  sound_parent is table =
      let mine_is : t.me.0.mine ≡ s.me.0.mine = ap (λ m. m.0.mine) is in record {
        live = ap (λ m. m.0.live) is ∙ ok.live;
        guest_is = ok.guest_is ∙ sym (ap (λ m. m.0.guest) is);
        small = ok.small;
        in_hand = go hand ok.in_hand;
        wide = ap (λ (m : Mine). length m.files) mine_is ∙ (ok.wide ∙ ap (λ z. z.slots) (sym table));
        few = subst (λ (z : TableId). z.slots ≤ 64) (sym table) ok.few;
        bar_is = λ f. ap (λ (m : Mine). (in_list m.files f).bar) mine_is ∙ ok.bar_is f;
        long = ok.long;
        last_is = λ f l. ok.last_is f (subst (λ (m : Mine). f < length m.files) mine_is l) ∙ ap (λ (m : Mine). last_of (places_of guest (whole_of (in_list m.files f)))) (sym mine_is);
        parts_ok = λ f l. subst (λ (m : Mine). IsSoundPart (first_in m.firsts f) (in_list m.files f)) (sym mine_is) (ok.parts_ok f (subst (λ (m : Mine). f < length m.files) mine_is l));
        never = λ f. subst (λ (z : Marks × Mine). Never z.0 (whole_of (in_list z.1.files f))) (λ i. (sym (ap (λ m. m.0.numbers) is) i, sym mine_is i)) (λ m x. ok.never f m (still m x).1);
        own_given = λ e. ok.own_given (still s.me.0.guest (sym (ap (λ m. get_elem? m.0.numbers m.0.guest) is) ∙ e)).1;
      }
    where
      still : (m : ℕ) → get_elem? (set s.me.0.numbers n out) m ≡ some unused → (m ≢ n) × (get_elem? s.me.0.numbers m ≡ some unused)
      still m x = ⊎_elim (λ (z : (m ≡ n) × (out ≡ unused)). let y = z.1 in absurd (cc)) (λ (z : (m ≢ n) × (get_elem? s.me.0.numbers m ≡ some unused)). z) (at_set s.me.0.numbers n m out unused x)

      go : (o : Option Past) → InHand s file' o → InHand t file' o
      go None h = ((λ f. ap (λ m. (part m.0 f).turn) is ∙ h.0 f), ap (λ m. m.1) is ∙ h.1)
      go (Some p) h = record {
        turn = ap (λ m. (part m.0 file').turn) is ∙ h.turn;
        alone = λ i ne. ap (λ m. (part m.0 i).turn) is ∙ h.alone i ne;
        taken = ap (λ m. m.1) is ∙ h.taken;
        first = h.first ∙ sym (ap (λ m. first_at m.0 file') is);
        history = h.history ∙ sym (ap (λ m. whole_seen m.0 file') is);
      }

-- ---- the first pass, once it took another in

-- a file of both is that of the first, but for what was seen: one of what either had
merged_at : (ms ns : List Shown) (f : ℕ) → in_list (merged_files ms ns) f ≡ record (in_list ms f) { seen = (in_list (merged_files ms ns) f).seen }
merged_at [] ns f = refl
merged_at (m ∷ ms) [] f = refl
merged_at (m ∷ ms) (n ∷ ns) zero = refl
merged_at (m ∷ ms) (n ∷ ns) (suc f) = merged_at ms ns f

merged_seen : (P : List Entry → Type 0) (ms ns : List Shown) (f : ℕ) → P (in_list ms f).seen → (f < length ns → P (in_list ns f).seen) → P (in_list (merged_files ms ns) f).seen
merged_seen P [] ns f a b = a
merged_seen P (m ∷ ms) [] f a b = a
merged_seen P (m ∷ ms) (n ∷ ns) zero a b = go (leb (length m.seen) (length n.seen))
  where
    go : (x : Bool) → P (cond x n.seen m.seen)
    go true = b (omega arith)
    go false = a
merged_seen P (m ∷ ms) (n ∷ ns) (suc f) a b = merged_seen P ms ns f a (λ l. b (omega arith))

merged_long : (ms ns : List Shown) → length (merged_files ms ns) ≡ length ms
merged_long [] ns = refl
merged_long (m ∷ ms) [] = refl
merged_long (m ∷ ms) (n ∷ ns) = ap suc (merged_long ms ns)

module _ (s t o : Chair) (hand hand' : Option Past) (file' file'' guest guest' : ℕ) (bar bar' : Option ℕ) (last last' : List (Option ℕ)) (ok : Sound s hand file' guest bar last) (theirs : Sound o hand' file'' guest' bar' last')
    (free : NoTurn s.me.0) (free' : NoTurn o.me.0) (is : t.me ≡ (joined merged s.me.0 o.me.0, s.me.1)) (table : t.table_id ≡ s.table_id)
    (grown : Grown s.me.0.guest s.me.0.mine t.me.0.mine) (begun : Begun o.me.0.mine t.me.0.mine) (never : (f : ℕ) → Never t.me.0.numbers (part t.me.0 f).seen) where
  j_part : (f : ℕ) → part t.me.0 f ≡ record (part s.me.0 f) { seen = (part t.me.0 f).seen }
  j_part f = ap (λ m. part m.0 f) is ∙ (merged_at s.me.0.mine.files o.me.0.mine.files f ∙ ap (λ (h : List Entry). record (part s.me.0 f) { seen = h }) (sym (ap (λ m. (part m.0 f).seen) is)))

  j_many : length t.me.0.mine.files ≡ length s.me.0.mine.files
  j_many = ap (λ m. length m.0.mine.files) is ∙ merged_long s.me.0.mine.files o.me.0.mine.files

  j_bare : (f : ℕ) → f < length s.me.0.mine.files → (part t.me.0 f).applied ≡ None
  j_bare f l = ap (λ (m : Shown). m.applied) (j_part f) ∙ (ok.parts_ok f l).bare (free f)

  j_whole : (f : ℕ) → f < length s.me.0.mine.files → whole_seen t.me.0 f ≡ (part t.me.0 f).seen
  j_whole f l = ap (with_entry (part t.me.0 f).seen) (j_bare f l)

  s_whole : (f : ℕ) → f < length s.me.0.mine.files → whole_seen s.me.0 f ≡ (part s.me.0 f).seen
  s_whole f l = ap (with_entry (part s.me.0 f).seen) ((ok.parts_ok f l).bare (free f))

  o_whole : (f : ℕ) → f < length o.me.0.mine.files → whole_seen o.me.0 f ≡ (part o.me.0 f).seen
  o_whole f l = ap (with_entry (part o.me.0 f).seen) ((theirs.parts_ok f l).bare (free' f))

  firsts_j : (f : ℕ) → first_at t.me.0 f ≡ first_at s.me.0 f
  firsts_j f = ap (λ (fs : List First). first_in fs f) grown.0

  firsts_o : (f : ℕ) → first_at o.me.0 f ≡ first_at s.me.0 f
  firsts_o f = ap (λ (fs : List First). first_in fs f) (sym begun.0 ∙ grown.0)

  j_small : (f : ℕ) → f < length s.me.0.mine.files → size_of (first_at s.me.0 f) (part t.me.0 f).seen ≤ max_file
  j_small f l = subst (λ (h : List Entry). size_of (first_at s.me.0 f) h ≤ max_file) (sym (ap (λ m. (part m.0 f).seen) is))
      (merged_seen (λ h. size_of (first_at s.me.0 f) h ≤ max_file) s.me.0.mine.files o.me.0.mine.files f
      (subst (λ (h : List Entry). size_of (first_at s.me.0 f) h ≤ max_file) (s_whole f l) (ok.parts_ok f l).small)
      (λ l'. subst (λ (z : First × List Entry). size_of z.0 z.1 ≤ max_file) (λ i. (firsts_o f i, o_whole f l' i)) (theirs.parts_ok f l').small))

  -- nothing more is the first's own
  j_places : (f : ℕ) → places_of guest (part t.me.0 f).seen ≡ places_of guest (part s.me.0 f).seen
  j_places f = let b = grown.1 f in let h = (part s.me.0 f).seen in let rest = b.0.0 in
      ap (places_of guest) (sym b.0.1)
      ∙ places_others guest 0 h rest (subst (All (λ (e : Entry). e.guest ≢ guest)) (ap (drop (length h)) (sym b.0.1) ∙ drop_front h rest) (none_behind guest (length h) (part t.me.0 f).seen (subst (λ (n : ℕ). Within n (length h) (part t.me.0 f).seen) (sym ok.guest_is) b.1)))
    where
      drop_front : (xs ys : List Entry) → drop (length xs) (xs ++ ys) ≡ ys
      drop_front [] ys = refl
      drop_front (x ∷ xs) ys = drop_front xs ys

  pub sound_joined : get_elem? s.me.0.numbers o.me.0.guest ≡ some out → Sound t hand file' guest bar last
  sound_joined given = record {
    live = ap (λ m. m.0.live) is ∙ ok.live;
    guest_is = ok.guest_is ∙ sym (ap (λ m. m.0.guest) is);
    small = ok.small;
    in_hand = go hand ok.in_hand;
    wide = j_many ∙ (ok.wide ∙ ap (λ z. z.slots) (sym table));
    few = subst (λ (z : TableId). z.slots ≤ 64) (sym table) ok.few;
    bar_is = λ f. ap (λ (m : Shown). m.bar) (j_part f) ∙ ok.bar_is f;
    long = ok.long;
    last_is = λ f l. let near : f < length s.me.0.mine.files = (let m = j_many in omega arith) in
        ok.last_is f near ∙ (ap (λ (h : List Entry). last_of (places_of guest h)) (s_whole f near) ∙ (ap last_of (sym (j_places f)) ∙ ap (λ (h : List Entry). last_of (places_of guest h)) (sym (j_whole f near))));
    parts_ok = λ f l. let near : f < length s.me.0.mine.files = (let m = j_many in omega arith) in let mine = ok.parts_ok f near in let seen = (part t.me.0 f).seen in
        subst (λ (z : First × Shown). IsSoundPart z.0 z.1) (λ i. (sym (firsts_j f) i, sym (j_part f) i)) record {
          notes = All-weaker (IsFreshNote (first_at s.me.0 f) (part s.me.0 f).seen) (IsFreshNote (first_at s.me.0 f) seen) (λ n x. subst (λ (h : List Entry). IsFreshNote (first_at s.me.0 f) h n) (grown.1 f).0.1 (fresh_longer (first_at s.me.0 f) (part s.me.0 f).seen (grown.1 f).0.0 n x)) (part s.me.0 f).notes mine.notes;
          small = subst (λ (a : Option Entry). size_of (first_at s.me.0 f) (with_entry seen a) ≤ max_file) (sym (mine.bare (free f))) (j_small f near);
          noted = λ e. absurd (true≢false (sym e ∙ free f));
          bare = mine.bare;
        };
    never = λ f. dite (dec_lt f (length s.me.0.mine.files)) (λ l. subst (Never t.me.0.numbers) (sym (j_whole f l)) (never f)) (λ past. subst (λ (m : Shown). Never t.me.0.numbers (whole_of m)) (sym (beyond t.me.0.mine.files f (λ l. past (let m = j_many in omega arith)))) (λ n _ k e a _. absurd (none_in k e a)));
    own_given = λ e. ok.own_given (still (sym (ap (λ m. get_elem? m.0.numbers m.0.guest) is) ∙ e));
  }
    where
      none_in : (k : ℕ) (e : Entry) → slice_get [] k ≡ Some e → ⊥
      none_in k e a = cc

      beyond : (l : List Shown) (f : ℕ) → (f < length l → ⊥) → in_list l f ≡ unseen
      beyond [] f past = refl
      beyond (x ∷ xs) zero past = absurd (past (omega arith))
      beyond (x ∷ xs) (suc f) past = beyond xs f (λ l. past (omega arith))

      still : get_elem? (set s.me.0.numbers o.me.0.guest (back o.me.0.mine o.me.0.noted)) s.me.0.guest ≡ some unused → get_elem? s.me.0.numbers s.me.0.guest ≡ some unused
      still x = ⊎_elim (λ (z : (s.me.0.guest ≡ o.me.0.guest) × (back o.me.0.mine o.me.0.noted ≡ unused)). let y = z.1 in absurd (cc)) (λ (z : (s.me.0.guest ≢ o.me.0.guest) × (get_elem? s.me.0.numbers s.me.0.guest ≡ some unused)). z.1) (at_set s.me.0.numbers o.me.0.guest s.me.0.guest (back o.me.0.mine o.me.0.noted) unused x)

      go : (h : Option Past) → InHand s file' h → InHand t file' h
      go None h = ((λ f. ap (λ (m : Shown). m.turn) (j_part f) ∙ h.0 f), ap (λ m. m.1) is ∙ h.1)
      go (Some p) h = absurd (true≢false (sym h.turn ∙ free file'))
