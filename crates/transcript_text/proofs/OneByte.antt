-- A word of one byte.
use Rattle.std.proofs.Common.{◌≡◌, refl, ℕ, ◌<◌, ◌==◌, false, length, arith, tests, List, [], ◌∷◌, Option, Some, None}
use Rattle.plain_text.specs.Options.{◌>>=◌}
use Rattle.plain_text.specs.Hexadecimal.{hex_pair, hex_pairs, hex_of, hex_byte_of}
use Rattle.transcript_text.specs.TranscriptReading.{only_byte}

alone : (o : Option ℕ) → o ≡ ((o >>= λ b. Some (b ∷ [])) >>= only_byte)
unfolding only_byte
alone None = refl
alone (Some b) = refl

no_more : (o : Option ℕ) → None ≡ ((o >>= λ b. None) >>= only_byte)
unfolding only_byte
no_more None = refl
no_more (Some b) = refl

two : (o p : Option ℕ) (q : Option (List ℕ)) → None ≡ ((o >>= λ b. (p >>= λ c. q >>= λ bytes. Some (c ∷ bytes)) >>= λ bytes. Some (b ∷ bytes)) >>= only_byte)
unfolding only_byte
two None p q = refl
two (Some b) None q = refl
two (Some b) (Some c) None = refl
two (Some b) (Some c) (Some bytes) = refl

some : (x : ℕ) (xs : List ℕ) → (length (x ∷ xs) == 0) ≡ false
some x xs = let h : 0 < length (x ∷ xs) = omega arith in grind (arith, tests, h)

pub byte_alone : (word : List ℕ) → hex_byte_of word ≡ (hex_of word >>= only_byte)
unfolding hex_of hex_byte_of hex_pairs only_byte
byte_alone [] = refl
byte_alone (a ∷ []) = refl
byte_alone (a ∷ b ∷ []) = alone (hex_pair a b)
byte_alone (a ∷ b ∷ c ∷ []) = no_more (hex_pair a b)
byte_alone (a ∷ b ∷ c ∷ d ∷ word) = rw (some a (b ∷ c ∷ d ∷ word)) (two (hex_pair a b) (hex_pair c d) (hex_pairs word))
