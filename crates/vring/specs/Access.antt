-- Reads and writes of a memory by address. What is outside changes nothing.
use Rattle.std.specs.Prelude.{◌≡◌, ℕ, ◌+◌, ◌-◌, ◌^◌, ◌<◌, ◌≤◌, min, List, length, take, drop, Result, Ok, Err}
use Rattle.vring.specs.declared.faults.Outside.{Outside}
use Rattle.vring.specs.Bytes.{put_at}

-- what is told of so many bytes at an address: the length, or the greatest that its field holds
abbrev pub outside_of : ℕ → ℕ → Outside
outside_of addr len = record { addr = addr; len = min len (2 ^ 32 - 1) }

-- the buffer has the memory's bytes, or the interval is outside and the buffer is the same
abbrev pub Reads : List ℕ → ℕ → List ℕ → Result Unit Outside → List ℕ → Type 0
Reads mem addr old (Ok _) new = (addr + length old ≤ length mem) × (new ≡ take (length old) (drop addr mem))
Reads mem addr old (Err e) new = (length mem < addr + length old) × (e ≡ outside_of addr (length old)) × (new ≡ old)

-- the memory has the bytes in their place, or the interval is outside and the memory is the same
abbrev pub Writes : List ℕ → ℕ → List ℕ → Result Unit Outside → List ℕ → Type 0
Writes old addr bytes (Ok _) new = (addr + length bytes ≤ length old) × (new ≡ put_at old addr bytes)
Writes old addr bytes (Err e) new = (length old < addr + length bytes) × (e ≡ outside_of addr (length bytes)) × (new ≡ old)
