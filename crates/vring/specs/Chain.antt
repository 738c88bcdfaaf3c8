-- Which chain stands in a memory, or which fault: VIRTIO 1.2 sections 2.7.5 and 2.7.6.
use Rattle.std.specs.Prelude.{ℕ, zero, suc, ◌+◌, ◌-◌, ◌*◌, ◌%◌, ◌^◌, ◌≤◌, ◌==◌, Bool, ◌&&◌, not, nat_le, nat_lt, List, [], ◌∷◌, ◌++◌, length, map, filter, Option, Some, None, Result, Ok, Err, bit_and, All, if◌then◌else◌}
use Rattle.std.specs.List.{list_any}
use Rattle.vring.specs.declared.layouts.Layout.{Layout}
use Rattle.vring.specs.declared.descriptors.Descriptor.{Descriptor}
use Rattle.vring.specs.declared.chains.Piece.{Piece}
use Rattle.vring.specs.declared.chains.Chain.{Chain}
use Rattle.vring.specs.declared.faults.RingFault.{RingFault}
use Rattle.vring.specs.declared.faults.RingFault.TheVariants as faults
use Rattle.plain_file.specs.Limits.{max_part}
use Rattle.vring.specs.Bytes.{u16_at, u32_at, u64_at}
use Rattle.vring.specs.Pieces.{total}

-- the flags have a bit: NEXT is 1, WRITE is 2, INDIRECT is 4
abbrev pub has : ℕ → ℕ → Bool
has flags bit = not (bit_and flags bit == 0)

-- the descriptor at an index of the table
unfoldable pub descriptor_at : List ℕ → Layout → ℕ → Descriptor
descriptor_at mem l index =
    let at = l.descriptors + 16 * index in
    record { addr = u64_at mem at; len = u32_at mem (at + 8); flags = u16_at mem (at + 12); next = u16_at mem (at + 14) }

-- the chain goes on, and what comes next is an index of the table
abbrev pub goes_on : Layout → Descriptor → Bool
goes_on l d = has d.flags 1 && nat_lt d.next l.size

-- the indices that `next` reaches from one on, this one first, at most so many
unfoldable pub reached : List ℕ → Layout → ℕ → ℕ → List ℕ
reached mem l index zero = []
reached mem l index (suc n) = index ∷ (if goes_on l (descriptor_at mem l index) then reached mem l (descriptor_at mem l index).next n else [])

-- the descriptor at an index is one that the device may write
unfoldable pub is_writable : List ℕ → Layout → ℕ → Bool
is_writable mem l index = has (descriptor_at mem l index).flags 2

-- the interval of the descriptor at an index
unfoldable pub piece_at : List ℕ → Layout → ℕ → Piece
piece_at mem l index = let d = descriptor_at mem l index in record { addr = d.addr; len = d.len }

-- The first check that a descriptor fails, in a memory of so many bytes and a table of this size,
-- where a writable one stood before it or not.
unfoldable pub fault_of : ℕ → ℕ → Bool → ℕ → Descriptor → Option RingFault
fault_of memory size written index d =
    if has d.flags 4 then Some (faults.Indirect index)
    else if written && not (has d.flags 2) then Some (faults.Order index)
    else if nat_lt memory (d.addr + d.len) then Some (faults.Outside d.addr d.len)
    else if has d.flags 1 && nat_le size d.next then Some (faults.BadIndex d.next)
    else None

-- the same of an index that was reached behind these; behind as many as the table has, the chain is a loop
unfoldable pub fault_at : List ℕ → Layout → List ℕ → ℕ → Option RingFault
fault_at mem l before index =
    if nat_le l.size (length before) then Some faults.Loop
    else fault_of (length mem) l.size (list_any (is_writable mem l) before) index (descriptor_at mem l index)

-- the first of two faults
abbrev pub or_else : Option RingFault → Option RingFault → Option RingFault
or_else (Some f) other = Some f
or_else None other = other

-- the first fault of these indices from the left, which were reached behind those
unfoldable pub first_fault : List ℕ → Layout → List ℕ → List ℕ → Option RingFault
first_fault mem l before [] = None
first_fault mem l before (index ∷ rest) = or_else (fault_at mem l before index) (first_fault mem l (before ++ index ∷ []) rest)

-- the intervals of those of the indices whose descriptors the device reads
unfoldable pub readable_of : List ℕ → Layout → List ℕ → List Piece
readable_of mem l indices = map (piece_at mem l) (filter (λ i. not (is_writable mem l i)) indices)

-- the intervals of those that it may write
unfoldable pub writable_of : List ℕ → Layout → List ℕ → List Piece
writable_of mem l indices = map (piece_at mem l) (filter (is_writable mem l) indices)

-- a part of so many bytes is too long, the readable one first
abbrev pub long_of : ℕ → ℕ → Option RingFault
long_of readable writable =
    if nat_lt max_part readable then Some (faults.Long readable)
    else if nat_lt max_part writable then Some (faults.Long writable)
    else None

-- the fault, or where there is none this
abbrev pub unless : {X : Type 0} → Option RingFault → X → Result X RingFault
unless (Some f) x = Err f
unless None x = Ok x

-- the chain of these indices
abbrev pub chain_from : List ℕ → Layout → ℕ → List ℕ → Chain
chain_from mem l head indices = record { head = head; readable = readable_of mem l indices; writable = writable_of mem l indices }

-- What stands at the head, where `next` reaches first those indices, which have no fault, and then
-- these: the first fault of one of these, or of the sums of all, or the chain of all.
unfoldable pub chain_of : List ℕ → Layout → ℕ → List ℕ → List ℕ → Result (Option Chain) RingFault
chain_of mem l head before rest =
    let all = before ++ rest in
    unless (or_else (first_fault mem l before rest) (long_of (total (readable_of mem l all)) (total (writable_of mem l all))))
    (Some (chain_from mem l head all))

-- how far an index is ahead of the seen one, modulo 2 ^ 16
abbrev pub ahead : ℕ → ℕ → ℕ
ahead index seen = (index + (2 ^ 16 - seen)) % 2 ^ 16

-- What a device finds in the memory that has seen so many chains: None, the first fault, or the
-- chain. Size + 1 indices are enough to tell a loop.
unfoldable pub chain_at : List ℕ → Layout → ℕ → Result (Option Chain) RingFault
chain_at mem l seen =
    let behind = ahead (u16_at mem (l.available + 2)) seen in
    let head = u16_at mem (l.available + 4 + 2 * (seen % l.size)) in
    if behind == 0 then Ok None
    else if nat_lt l.size behind then Err (faults.Jump behind)
    else if nat_le l.size head then Err (faults.BadIndex head)
    else chain_of mem l head [] (reached mem l head (l.size + 1))

-- a piece lies in a memory of so many bytes
abbrev pub LiesIn : ℕ → Piece → Type 0
LiesIn memory p = p.addr + p.len ≤ memory

-- every piece of a chain lies in a memory of so many bytes, and neither part is too long
pub record ChainLiesIn (memory : ℕ) (c : Chain) : Type 0 where
  pub readable : All (LiesIn memory) c.readable
  pub writable : All (LiesIn memory) c.writable
  pub readable_sum : total c.readable ≤ max_part
  pub writable_sum : total c.writable ≤ max_part
