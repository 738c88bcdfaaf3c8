-- What holds of a plain board's files.
use Rattle.std.proofs.Common.{◌≡◌, ◌∙◌, sym, refl, ℕ, ◌<◌, ◌≤◌, true, true≢false, List, [], ◌∷◌, length, zero, suc, slice_get, get_or, Some, Option, arith}
use Rattle.std.specs.Prelude.{All, map}
use Rattle.std.specs.List.{range_with_len}
use Rattle.std.proofs.lemmas.List.Elements.{All-nil, All-map, All-append}
use Rattle.std.proofs.lemmas.List.FromFn.{length-range_with_len, get_or-range_with_len}
use Rattle.std.proofs.lemmas.Option.{slice_get-get_or, slice_get_within, get_or_from_slice_get}
use Rattle.plain_file.specs.declared.operations.Entry.{Entry}
use Rattle.plain_file.specs.declared.operations.First.{First}
use Rattle.plain_file.specs.declared.operations.Op.TheVariants as ops
use Rattle.plain_file.specs.declared.operations.Way.TheVariants as ways
use Rattle.plain_file.specs.declared.refusals.RefusedBar.{RefusedBar}
use Rattle.plain_file.specs.File.{max_file}
use Rattle.plain_file.specs.History.{Past}
use Rattle.plain_file.specs.Board.{FileView, size_of, with_own}
use Rattle.plain_file.specs.Sound.{IsPlaceOf, IsSoundFile}
use Rattle.plain_file.specs.Plain.{own_file, new_file, IsAllOf}

-- some entry
abbrev some_entry : Entry
some_entry = record { guest = 0; call = 0; op = ops.Size; way = ways.Req }

-- the place of a range's number
at_range : (n i p : ℕ) → slice_get (range_with_len 0 n) i ≡ Some p → p ≡ i
at_range n i p e =
    let within : i < n = rw (length-range_with_len 0 n) at (slice_get_within (range_with_len 0 n) i p e) in
    sym (get_or_from_slice_get (range_with_len 0 n) i p 0 e) ∙ get_or-range_with_len 0 n i 0 within ∙ omega arith

-- each place of a history that is all one guest's is a place of this guest
all_places : (guest : ℕ) (history : List Entry) → All (λ e. e.guest ≡ guest) history → All (IsPlaceOf guest history) (range_with_len 0 (length history))
all_places guest history all k d within =
    let inside : k < length history = rw (length-range_with_len 0 (length history)) at within in
    let e : get_or (range_with_len 0 (length history)) k d ≡ k = get_or-range_with_len 0 (length history) k d inside ∙ omega arith in
    rw e (get_or history k some_entry, slice_get-get_or history k some_entry inside, all k some_entry inside)

pub sound_file : (guest : ℕ) (past : Past) (floor : Option ℕ) (refusals : ℕ) (refused : Option RefusedBar) → IsAllOf guest (own_file past floor refusals refused)
    → size_of (own_file past floor refusals refused) ≤ max_file → IsSoundFile guest true (own_file past floor refusals refused)
sound_file guest past floor refusals refused all small = record {
  ready = λ e. refl;
  own = all_places guest past.history all;
  rising = λ i j p q before at_i at_j. rw (at_range (length past.history) i p at_i, at_range (length past.history) j q at_j) before;
  notes = All-nil _;
  floor = λ e. absurd (true≢false e);
  small = small;
}

-- new files have no entries
pub new_files_own : (guest : ℕ) (firsts : List First) → All (IsAllOf guest) (map new_file firsts)
new_files_own guest firsts = All-map (IsAllOf guest) new_file firsts (λ k d within. All-nil _)

All-one : {A : Type 0} (P : A → Type 0) (x : A) → P x → All P (x ∷ [])
All-one P x one zero d within = one
All-one P x one (suc k) d within = absurd (omega (arith, within))

-- one entry more of the guest
pub own_grown : (guest : ℕ) (f : FileView) (e : Entry) → IsAllOf guest f → e.guest ≡ guest → IsAllOf guest (with_own true e f)
own_grown guest f e all own = All-append (λ (x : Entry). x.guest ≡ guest) f.history (e ∷ []) all (All-one (λ (x : Entry). x.guest ≡ guest) e own)
