-- Lines as they are printed, word by word.
use Rattle.std.specs.Prelude.{ℕ, List, [], ◌∷◌, ◌++◌}
use Rattle.std.specs.List.{flat_map}

-- words with one space between two
unfoldable pub joined : List (List ℕ) → List ℕ
joined [] = []
joined (w ∷ []) = w
joined (w ∷ v ∷ ws) = w ++ 32 ∷ joined (v ∷ ws)

-- the line of these words, with its end
abbrev pub line : List (List ℕ) → List ℕ
line ws = joined ws ++ 10 ∷ []

-- a space and a word
abbrev pub after_space : List ℕ → List ℕ
after_space word = 32 ∷ word

-- words with a space before each
abbrev pub followed : List (List ℕ) → List ℕ
followed words = flat_map after_space words
