-- The first part of bytes, and the parts behind it.
use Rattle.std.proofs.Common.{◌≡◌, refl, ℕ, ◌<◌, ◌≤◌, List, [], ◌∷◌, length, take, drop, position, Some, None, arith}
use Rattle.std.proofs.lemmas.Grind.{common_steps}
use Rattle.std.specs.List.{position_or_len}
use Rattle.std.proofs.lemmas.List.{drop-drop}
use Rattle.std.proofs.lemmas.List.Quantifiers.{position-Some}
use Rattle.std.proofs.lemmas.List.Splits.{slice_split_none, slice_split_first, length-slice_split}
use Rattle.std.proofs.lemmas.List.Sums.{fails_before_first, position_or_len_is}
use Rattle.plain_text.specs.Words.{parts, is_byte}

-- without a separator all is one part
pub parts_alone : (sep : ℕ) (bytes : List ℕ) → position (is_byte sep) bytes ≡ None → parts sep bytes ≡ bytes ∷ []
parts_alone sep bytes none =
    let far : length bytes ≤ position_or_len (is_byte sep) bytes = grind (arith, common_steps) in
    slice_split_none (is_byte sep) bytes (λ k d below. fails_before_first (is_byte sep) bytes k d (omega arith))

-- the part before the first separator
pub parts_first : (sep : ℕ) (bytes : List ℕ) (at : ℕ) → position (is_byte sep) bytes ≡ Some at → parts sep bytes ≡ take at bytes ∷ parts sep (drop 1 (drop at bytes))
parts_first sep bytes at found =
    let there = position-Some (is_byte sep) bytes at 0 found in
    let place : position_or_len (is_byte sep) bytes ≡ at = position_or_len_is (is_byte sep) bytes at 0 (omega arith) there.2 (λ _. there.1) in
    rw drop-drop (rw (← place) (slice_split_first (is_byte sep) bytes 0 (omega arith)))

-- there is at least one part
pub parts_some : (sep : ℕ) (bytes : List ℕ) → (next : List ℕ) × (others : List (List ℕ)) × (parts sep bytes ≡ next ∷ others)
parts_some sep bytes =
    elim (parts sep bytes) as (λ ps. 0 < length ps → (next : List ℕ) × (others : List (List ℕ)) × (ps ≡ next ∷ others)) [
      | [] ↦ λ some. absurd (omega arith)
      | p ∷ ps ↦ λ _. (p, ps, refl)
    ] (omega (arith, length-slice_split (is_byte sep) bytes))
