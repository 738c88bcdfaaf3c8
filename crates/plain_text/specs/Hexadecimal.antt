-- The bytes that a word writes in hexadecimal.
use Rattle.std.specs.Prelude.{ℕ, ◌+◌, ◌-◌, ◌*◌, ◌==◌, ◌&&◌, Bool, nat_le, List, [], ◌∷◌, length, Option, Some, None, is_some, if◌then◌else◌}
use Rattle.plain_text.specs.Options.{◌>>=◌}

-- the value of a digit: `0` to `9` are 48 to 57, and `a` to `f` are 97 to 102
abbrev pub hex_digit : ℕ → Option ℕ
hex_digit c =
    if nat_le 48 c && nat_le c 57 then Some (c - 48)
    else if nat_le 97 c && nat_le c 102 then Some (c - 87)
    else None

abbrev pub is_digit : ℕ → Bool
is_digit c = is_some (hex_digit c)

-- the byte of two digits
abbrev pub hex_pair : ℕ → ℕ → Option ℕ
hex_pair high low = hex_digit high >>= λ h. hex_digit low >>= λ l. Some (h * 16 + l)

-- the bytes of digits, two a byte
unfoldable pub hex_pairs : List ℕ → Option (List ℕ)
hex_pairs [] = Some []
hex_pairs (high ∷ []) = None
hex_pairs (high ∷ low ∷ rest) = hex_pair high low >>= λ b. hex_pairs rest >>= λ bytes. Some (b ∷ bytes)

-- the bytes that a positive even number of lower case hexadecimal digits writes
unfoldable pub hex_of : List ℕ → Option (List ℕ)
hex_of word = if length word == 0 then None else hex_pairs word

-- the byte that a word of two digits writes
unfoldable pub hex_byte_of : List ℕ → Option ℕ
hex_byte_of (high ∷ low ∷ []) = hex_pair high low
hex_byte_of word = None
