-- Steps of reading, one after another, of which each may refuse the line for a reason.
use Rattle.std.specs.Prelude.{ℕ, Bool, true, false, List, [], ◌∷◌, Option, Some, None, Result, Ok, Err}
use Rattle.dax_script.specs.declared.whys.Why.{Why}
use Rattle.dax_script.specs.declared.whys.Why.TheVariants as whys

infixl 10 ◌then◌
abbrev pub ◌then◌ : {A B : Type 0} → Result A Why → (A → Result B Why) → Result B Why
(Ok x) then f = f x
(Err why) then f = Err why

-- a value, or else this reason
abbrev pub or_why : {A : Type 0} → Why → Option A → Result A Why
or_why why None = Err why
or_why why (Some x) = Ok x

-- a value where a test holds, or else this reason
abbrev pub where_holds : {A : Type 0} → Bool → Why → A → Result A Why
where_holds true why x = Ok x
where_holds false why x = Err why

-- so many words and no more, or else the reason `words`
unfoldable pub none : List (List ℕ) → Result (Unit {0}) Why
none [] = Ok tt
none words = Err whys.Words

unfoldable pub one : List (List ℕ) → Result (List ℕ) Why
one (a ∷ []) = Ok a
one words = Err whys.Words

unfoldable pub two : List (List ℕ) → Result (List ℕ × List ℕ) Why
two (a ∷ b ∷ []) = Ok (a, b)
two words = Err whys.Words

unfoldable pub three : List (List ℕ) → Result (List ℕ × List ℕ × List ℕ) Why
three (a ∷ b ∷ c ∷ []) = Ok (a, b, c)
three words = Err whys.Words

unfoldable pub four : List (List ℕ) → Result (List ℕ × List ℕ × List ℕ × List ℕ) Why
four (a ∷ b ∷ c ∷ d ∷ []) = Ok (a, b, c, d)
four words = Err whys.Words
