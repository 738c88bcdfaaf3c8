-- The first place at which a test holds, as a search says it that looks at several bytes at once.
use Rattle.std.proofs.Common.{◌≡◌, ◌∙◌, ap, sym, refl, ℕ, ◌+◌, Bool, true, false, cond, ltb, List, [], ◌∷◌, ◌++◌, length, take, drop, Option, Some, None, arith}
use Rattle.std.specs.List.{position, position_from, position_or_len}
use Rattle.std.specs.Option.{option_map}
use Rattle.std.proofs.lemmas.Iterator.Adapters.{position_from-zero}
use Rattle.std.proofs.lemmas.List.{take-append-drop}
use Rattle.std.proofs.lemmas.Option.{none-some}
use Rattle.std.proofs.lemmas.List.Sums.{position_or_len_is}
use Rattle.memchr.specs.Find.{IsFirstByte}

not_true : (b : Bool) → (b ≡ true → ⊥) → b ≡ false
not_true true h = absurd (h refl)
not_true false h = refl

placed : (test : ℕ → Bool) (bytes : List ℕ) (i : ℕ) (b : Bool) → position_or_len test bytes ≡ i → ltb i (length bytes) ≡ b → cond b (Some i) None ≡ position test bytes
placed test bytes i b e t = ap (λ c. cond c (Some i) None) (sym t) ∙ ap (λ n. cond (ltb n (length bytes)) (Some n) None) (sym e)

pub first_place : (test : ℕ → Bool) (bytes : List ℕ) (r : Option ℕ) → IsFirstByte test bytes r → r ≡ position test bytes
first_place test bytes None h =
    placed test bytes (length bytes) false (position_or_len_is test bytes (length bytes) 0 (omega arith) (λ k l. not_true _ (h k (omega arith) l)) (λ l. absurd (omega (arith, l)))) (grind arith)
first_place test bytes (Some i) h =
    placed test bytes i true (position_or_len_is test bytes i 0 (omega (arith, h.0.high)) (λ k l. not_true _ (h.0.before k (omega arith) l)) (λ l. h.1)) (grind (arith, h.0.high))

-- ---- a front, and what lies behind it

from_found : (test : ℕ → Bool) (m : ℕ) (xs ys : List ℕ) (i : ℕ) → position_from test m xs ≡ Some i → position_from test m (xs ++ ys) ≡ Some i
from_found test m [] ys i e = absurd (none-some i e)
from_found test m (x ∷ xs) ys i e = elim (test x) as (λ b. cond b (Some m) (position_from test (m + 1) xs) ≡ Some i → cond b (Some m) (position_from test (m + 1) (xs ++ ys)) ≡ Some i) [
  | true ↦ λ h. h
  | false ↦ λ h. from_found test (m + 1) xs ys i h
] e

from_passed : (test : ℕ → Bool) (m : ℕ) (xs ys : List ℕ) → position_from test m xs ≡ None → position_from test m (xs ++ ys) ≡ position_from test (m + length xs) ys
from_passed test m [] ys e = let same : m ≡ m + length {A = ℕ} [] = omega arith in ap (λ k. position_from test k ys) same
from_passed test m (x ∷ xs) ys e =
    let same : m + 1 + length xs ≡ m + length (x ∷ xs) = omega arith in
    elim (test x) as (λ b. cond b (Some m) (position_from test (m + 1) xs) ≡ None → cond b (Some m) (position_from test (m + 1) (xs ++ ys)) ≡ position_from test (m + length (x ∷ xs)) ys) [
      | true ↦ λ h. absurd (none-some m (sym h))
      | false ↦ λ h. from_passed test (m + 1) xs ys h ∙ ap (λ k. position_from test k ys) same
    ] e

from_later : (test : ℕ → Bool) (m k : ℕ) (ys : List ℕ) → position_from test (m + k) ys ≡ option_map (λ i. m + i) (position_from test k ys)
from_later test m k [] = refl
from_later test m k (y ∷ ys) =
    let same : m + k + 1 ≡ m + (k + 1) = omega arith in
    elim (test y) as (λ b. cond b (Some (m + k)) (position_from test (m + k + 1) ys) ≡ option_map (λ i. m + i) (cond b (Some k) (position_from test (k + 1) ys))) [
      | true ↦ refl
      | false ↦ ap (λ j. position_from test j ys) same ∙ from_later test m (k + 1) ys
    ]

as_from : (test : ℕ → Bool) (xs : List ℕ) → position test xs ≡ position_from test 0 xs
as_from test xs = position_from-zero test xs

parted_from : (test : ℕ → Bool) (bytes : List ℕ) (n : ℕ) → position test bytes ≡ position_from test 0 (take n bytes ++ drop n bytes)
parted_from test bytes n = as_from test bytes ∙ ap (λ xs. position_from test 0 xs) (sym (take-append-drop n bytes))

pub near_found : (test : ℕ → Bool) (bytes : List ℕ) (n i : ℕ) → position test (take n bytes) ≡ Some i → position test bytes ≡ Some i
near_found test bytes n i e = parted_from test bytes n ∙ from_found test 0 (take n bytes) (drop n bytes) i (sym (as_from test (take n bytes)) ∙ e)

pub near_passed : (test : ℕ → Bool) (bytes : List ℕ) (n : ℕ) → position test (take n bytes) ≡ None → position test bytes ≡ option_map (λ i. length (take n bytes) + i) (position test (drop n bytes))
near_passed test bytes n e =
    let front : ℕ = length (take n bytes) in
    let same : 0 + front ≡ front + 0 = omega arith in
    parted_from test bytes n
    ∙ from_passed test 0 (take n bytes) (drop n bytes) (sym (as_from test (take n bytes)) ∙ e)
    ∙ ap (λ k. position_from test k (drop n bytes)) same
    ∙ from_later test front 0 (drop n bytes)
    ∙ ap (λ o. option_map (λ i. front + i) o) (sym (as_from test (drop n bytes)))
