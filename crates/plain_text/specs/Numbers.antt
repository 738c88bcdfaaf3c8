-- The number that a word writes in decimal.
use Rattle.std.specs.Prelude.{ℕ, ◌+◌, ◌*◌, ◌-◌, ◌==◌, ◌&&◌, ◌||◌, not, nat_lt, List, [], ◌∷◌, length, slice_index, Option, Some, None, if◌then◌else◌}
use Rattle.std.specs.Char.{is_ascii_digit}
use Rattle.plain_text.specs.Options.{◌>>=◌}

-- the number that digits write behind those of n, where all are digits
abbrev pub number_after : ℕ → List ℕ → Option ℕ
number_after n [] = Some n
number_after n (c ∷ cs) = if is_ascii_digit c then number_after (n * 10 + (c - 48)) cs else None

-- a number is 0, or digits without a leading zero, at most 20
unfoldable pub number_of : List ℕ → Option ℕ
number_of word =
    if length word == 0 || nat_lt 20 (length word) then None
    else if slice_index word 0 == 48 && not (length word == 1) then None
    else number_after 0 word

-- a number of at most the limit
unfoldable pub number_within : List ℕ → ℕ → Option ℕ
number_within word limit = number_of word >>= λ n. if nat_lt limit n then None else Some n
