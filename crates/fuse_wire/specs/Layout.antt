-- A layout is a list of parts. Its spelling is the spellings of the parts, one after the other.
use Rattle.std.specs.Prelude.{ℕ, ℤ, FitsSigned, ◌≡◌, ◌+◌, ◌<◌, ◌^◌, List, [], ◌∷◌, ◌++◌, length, replicate}
use Rattle.std.specs.Int.{w16, w32, w64, to_le_bytes, cast_unsigned}

-- a little-endian number of so many bits, so many bytes of any value, or these bytes
pub data Part : Type 0 where
  U16 : ℕ → Part
  U32 : ℕ → Part
  U64 : ℕ → Part
  I32 : ℤ → Part
  Unused : ℕ → Part
  Bytes : List ℕ → Part

-- bytes that spell one part
abbrev pub Spells : Part → List ℕ → Type 0
Spells (U16 n) bytes = (n < 2 ^ 16) × (bytes ≡ to_le_bytes w16 n)
Spells (U32 n) bytes = (n < 2 ^ 32) × (bytes ≡ to_le_bytes w32 n)
Spells (U64 n) bytes = (n < 2 ^ 64) × (bytes ≡ to_le_bytes w64 n)
Spells (I32 z) bytes = FitsSigned w32 z × (bytes ≡ to_le_bytes w32 (cast_unsigned w32 z))
Spells (Unused k) bytes = length bytes ≡ k
Spells (Bytes xs) bytes = bytes ≡ xs

-- bytes that spell the parts in their order
unfoldable pub AreSpelled : List Part → List ℕ → Type 0
AreSpelled [] bytes = bytes ≡ []
AreSpelled (p ∷ ps) bytes = (front : List ℕ) × (rest : List ℕ) × Spells p front × (bytes ≡ front ++ rest) × AreSpelled ps rest

-- the spelling of one part that has zeros where any bytes may stand
abbrev pub clean_part : Part → List ℕ
clean_part (U16 n) = to_le_bytes w16 n
clean_part (U32 n) = to_le_bytes w32 n
clean_part (U64 n) = to_le_bytes w64 n
clean_part (I32 z) = to_le_bytes w32 (cast_unsigned w32 z)
clean_part (Unused k) = replicate k 0
clean_part (Bytes xs) = xs

-- the spelling of the parts that has zeros where any bytes may stand
abbrev pub clean : List Part → List ℕ
clean [] = []
clean (p ∷ ps) = clean_part p ++ clean ps

-- how many bytes a part takes
abbrev pub part_len : Part → ℕ
part_len (U16 n) = 2
part_len (U32 n) = 4
part_len (U64 n) = 8
part_len (I32 z) = 4
part_len (Unused k) = k
part_len (Bytes xs) = length xs

-- how many bytes the parts take
abbrev pub parts_len : List Part → ℕ
parts_len [] = 0
parts_len (p ∷ ps) = part_len p + parts_len ps

-- a part's number is within its width
abbrev pub FitsPart : Part → Type 0
FitsPart (U16 n) = n < 2 ^ 16
FitsPart (U32 n) = n < 2 ^ 32
FitsPart (U64 n) = n < 2 ^ 64
FitsPart (I32 z) = FitsSigned w32 z
FitsPart (Unused k) = Unit {0}
FitsPart (Bytes xs) = Unit {0}

-- each number is within its width
unfoldable pub FitsParts : List Part → Type 0
FitsParts [] = Unit {0}
FitsParts (p ∷ ps) = FitsPart p × FitsParts ps
