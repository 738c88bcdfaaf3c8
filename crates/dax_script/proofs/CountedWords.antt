-- One word more in front.
use Rattle.std.proofs.Common.{◌≡◌, refl, ℕ, List, [], ◌∷◌, Ok}
use Rattle.dax_script.specs.Steps.{◌then◌, none, one, two, three, four}

pub one_more : (a : List ℕ) (ws : List (List ℕ)) → one (a ∷ ws) ≡ none ws then λ _. Ok a
unfolding one none
one_more a [] = refl
one_more a (b ∷ ws) = refl

pub two_more : (a : List ℕ) (ws : List (List ℕ)) → two (a ∷ ws) ≡ one ws then λ b. Ok (a, b)
unfolding two one
two_more a [] = refl
two_more a (b ∷ []) = refl
two_more a (b ∷ c ∷ ws) = refl

pub three_more : (a : List ℕ) (ws : List (List ℕ)) → three (a ∷ ws) ≡ two ws then λ w. Ok (a, w.0, w.1)
unfolding three two
three_more a [] = refl
three_more a (b ∷ []) = refl
three_more a (b ∷ c ∷ []) = refl
three_more a (b ∷ c ∷ d ∷ ws) = refl

pub four_more : (a : List ℕ) (ws : List (List ℕ)) → four (a ∷ ws) ≡ three ws then λ w. Ok (a, w.0, w.1, w.2)
unfolding four three
four_more a [] = refl
four_more a (b ∷ []) = refl
four_more a (b ∷ c ∷ []) = refl
four_more a (b ∷ c ∷ d ∷ []) = refl
four_more a (b ∷ c ∷ d ∷ e ∷ ws) = refl

pub ruleset counting = (one_more, two_more, three_more, four_more)
