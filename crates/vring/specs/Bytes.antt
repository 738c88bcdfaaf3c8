-- A memory as a list of bytes: little-endian numbers in it, and bytes that are put into it.
use Rattle.std.specs.Prelude.{ℕ, ◌+◌, List, ◌++◌, length, take, drop}
use Rattle.std.specs.Int.{w16, w32, w64, from_le_bytes}

-- the most bytes that a memory has: 16 MiB
abbrev pub max_memory : ℕ
max_memory = 16777216

-- the number that the two bytes from a place on spell
unfoldable pub u16_at : List ℕ → ℕ → ℕ
u16_at bytes at = from_le_bytes w16 (take 2 (drop at bytes))

-- the number that the four bytes from a place on spell
unfoldable pub u32_at : List ℕ → ℕ → ℕ
u32_at bytes at = from_le_bytes w32 (take 4 (drop at bytes))

-- the number that the eight bytes from a place on spell
unfoldable pub u64_at : List ℕ → ℕ → ℕ
u64_at bytes at = from_le_bytes w64 (take 8 (drop at bytes))

-- the memory where these bytes stand at a place, and elsewhere its own
abbrev pub put_at : List ℕ → ℕ → List ℕ → List ℕ
put_at mem at bytes = take at mem ++ bytes ++ drop (at + length bytes) mem
