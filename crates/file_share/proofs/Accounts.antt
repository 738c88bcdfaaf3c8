-- Whose the entries of a history are.
use Rattle.std.proofs.Common.{◌≡◌, ℕ, suc, ◌+◌, ◌<◌, ◌≤◌, List, [], ◌∷◌, ◌++◌, length, take, drop, slice_get, Option, Some, None, IfSome, refl, sym, ap, ◌∙◌, subst, ⊎_elim, arith}
use mathlib.Core.Logic.{dite}
use native.Mathlib.Decide.{ℕ_discrete}
use Rattle.std.proofs.lemmas.List.{append-nil, take-append-drop, length-take-le}
use Rattle.seats.specs.Views.{guests, root}
use Rattle.seats.specs.Seats.{AllBack}
use Rattle.plain_file.specs.declared.operations.Entry.{Entry}
use Rattle.files_core.specs.Files.{FileState, row, no_file, file, with_entry}
use Rattle.files_core.specs.Good.{Within, NoteOk}
use Rattle.files_core.specs.Laws.{Begins}
use Rattle.files_core.specs.Shown.{Shown, shown_of}
use Rattle.file_share.specs.Table.{Core, GoodCore, Marks, Mine, Behind, Turnless, all_unseen, files_kit, in_list, mine, past_of}
use Rattle.file_share.specs.Steps.{Accounted}
use Rattle.file_share.proofs.Places.{get_map, in_range}
use Rattle.file_share.proofs.LawsOfMoves.{nothing_at, take_begins, zero_take}

-- a guest that never came has no entry
pub never_of : (c : Core) (n f : ℕ) → n < guests → GoodCore c → mine n c ≡ all_unseen c → f < length c.files → Within n 0 (file c.files f).history
never_of c n f l good bare near = let x : FileState = file c.files f in let ok = (good.files_good.files_ok f near).rows_ok n l in
    subst (λ (m : ℕ). Within n m x.history) (zero_take (row x n).seen x.history ok.seen (ap (λ (m : Shown). m.seen) (nothing_at c n bare f))) ok.own

get_append : (xs ys : List Entry) (k : ℕ) (e : Entry) → slice_get ys k ≡ Some e → slice_get (xs ++ ys) (length xs + k) ≡ Some e
get_append [] ys k e at = subst (λ (z : ℕ). slice_get ys z ≡ Some e) (omega arith) at
get_append (x ∷ xs) ys k e at = let m : ℕ = length xs + k in let same : suc m ≡ length (x ∷ xs) + k = omega arith in subst (λ (z : ℕ). slice_get (x ∷ (xs ++ ys)) z ≡ Some e) same (get_append xs ys k e at)

take_all : (h : List Entry) (n : ℕ) → n ≤ length h → ((k : ℕ) (e : Entry) → slice_get h k ≡ Some e → k < n) → take n h ≡ h
take_all h n l all = go (drop n h) (take-append-drop n h)
  where
    go : (rest : List Entry) → take n h ++ rest ≡ h → take n h ≡ h
    go [] is = sym (append-nil (take n h)) ∙ is
    go (x ∷ rest) is = absurd (let len = length-take-le n h l in let lt = all (length (take n h) + 0) x (subst (λ z. slice_get z (length (take n h) + 0) ≡ Some x) is (get_append (take n h) (x ∷ rest) 0 x refl)) in omega arith)

at_rest : (o : Option Entry) (t : Option ℕ) (h : List Entry) → t ≡ None → IfSome o (λ e. t ≡ Some e.guest) → with_entry h o ≡ h
at_rest None t h none is = refl
at_rest (Some e) t h none is = absurd (let x : None ≡ Some e.guest = sym none ∙ is in cc)

module _ (c : Core) (numbers : Marks) (all : length numbers ≡ guests) (good : GoodCore c) (back_all : AllBack files_kit c numbers) (f : ℕ) (near : f < length c.files) where
  -- an entry is one that the first guest has seen
  seen_by : (k : ℕ) (e : Entry) → slice_get (file c.files f).history k ≡ Some e → k < (row (file c.files f) root).seen
  seen_by k e at = let ok = good.files_good.files_ok f near in let few = ok.entries_small k e at in let its = (ok.rows_ok e.guest few).own k e at refl in dite (ℕ_discrete e.guest root)
      (λ is. (ok.rows_ok root (omega arith)).own k e at is)
      (λ ne. ⊎_elim
      (λ (bare : mine e.guest c ≡ all_unseen c). absurd (let lt = never_of c e.guest f few good bare near k e at refl in omega arith))
      (λ (h : Turnless (mine e.guest c) × Behind e.guest c). let le = h.1 f near in omega arith)
      (back_all.rest e.guest few ne))

  all_seen : (file c.files f).history ≡ (in_list (mine root c).files f).seen
  all_seen = let x : FileState = file c.files f in let ok = good.files_good.files_ok f near in
      sym (ap (λ (m : Shown). m.seen) (get_map (shown_of root) c.files f no_file) ∙ take_all x.history (row x root).seen (ok.rows_ok root (omega arith)).seen seen_by)

  -- what a joined pass was shown begins the history, where nothing more is its guest's
  its_own : (n : ℕ) (m : Mine) → n < guests → m ≡ mine n c → Begins (in_list m.files f).seen (file c.files f).history × Within n (length (in_list m.files f).seen) (file c.files f).history
  its_own n m few is = let x : FileState = file c.files f in let ok = (good.files_good.files_ok f near).rows_ok n few in
      let shows = ap (λ (y : Mine). in_list y.files f) is ∙ get_map (shown_of n) c.files f no_file in
      subst (λ (y : Shown). Begins y.seen x.history × Within n (length y.seen) x.history) (sym shows) (take_begins (row x n).seen x.history, subst (λ (z : ℕ). Within n z x.history) (sym (length-take-le (row x n).seen x.history ok.seen)) ok.own)

  module _ (idle : (file c.files f).turn ≡ None) where
    account : Accounted numbers f (past_of (file c.files f))
    account = let x : FileState = file c.files f in let ok = good.files_good.files_ok f near in record {
      small = ok.entries_small;
      never = λ n is. never_of c n f (let l = in_range numbers n _ is in omega arith) good (back_all.unused_is n is) near;
      joined = λ n m y is. its_own n m (let l = in_range numbers n _ is in omega arith) (back_all.back_is n m y is).0;
      notes = λ n k m y note is at. let shows = ap (λ (z : Mine). in_list z.files f) (back_all.back_is n m y is).0 ∙ get_map (shown_of n) c.files f no_file in
          subst (λ (h : List Entry). NoteOk x.first h note) (at_rest x.applied x.turn x.history idle ok.applied_is)
          (ok.notes_ok n k note (subst (λ (z : Shown). slice_get z.notes k ≡ Some note) shows at));
    }

-- With every number in, and nobody's turn, the first guest has seen the whole history, and of each entry it is known whose it is.
pub accounted : (c : Core) (numbers : Marks) → length numbers ≡ guests → GoodCore c → AllBack files_kit c numbers → (f : ℕ) → f < length c.files → (file c.files f).turn ≡ None
    → ((file c.files f).history ≡ (in_list (mine root c).files f).seen) × Accounted numbers f (past_of (file c.files f))
accounted c numbers all good back_all f near idle = (all_seen c numbers all good back_all f near, account c numbers all good back_all f near idle)
