-- Pieces of a memory: how long they are together, what is read of them, and what is written into them.
use Rattle.std.specs.Prelude.{◌≡◌, ℕ, ◌<◌, ◌≤◌, List, [], ◌∷◌, length, take, drop, sum_by, flat_map, Result, Ok, Err}
use Rattle.vring.specs.declared.chains.Piece.{Piece}
use Rattle.vring.specs.declared.faults.NoRoom.{NoRoom}
use Rattle.vring.specs.Bytes.{put_at}

-- how many bytes the pieces have
unfoldable pub total : List Piece → ℕ
total pieces = sum_by (λ p. p.len) pieces

-- the bytes of a piece
abbrev pub bytes_of : List ℕ → Piece → List ℕ
bytes_of mem p = take p.len (drop p.addr mem)

-- the bytes of the pieces, one piece after another
abbrev pub gathered : List ℕ → List Piece → List ℕ
gathered mem pieces = flat_map (bytes_of mem) pieces

-- the memory after each piece, in their order, has taken its front of the bytes that are left
unfoldable pub scattered : List ℕ → List Piece → List ℕ → List ℕ
scattered mem [] bytes = mem
scattered mem (p ∷ ps) bytes = scattered (put_at mem p.addr (take p.len bytes)) ps (drop p.len bytes)

-- all of the bytes are scattered, or they are more than the pieces take and the memory is the same
abbrev pub Scatters : List ℕ → List Piece → List ℕ → Result ℕ NoRoom → List ℕ → Type 0
Scatters old pieces bytes (Ok n) new = (length bytes ≤ total pieces) × (n ≡ length bytes) × (new ≡ scattered old pieces bytes)
Scatters old pieces bytes (Err e) new = (total pieces < length bytes) × (e ≡ record { room = total pieces }) × (new ≡ old)
