-- What stands in small memories with a ring of size 2, worked out by hand: 100 bytes, the table at 0,
-- the available ring at 32, the used ring at 44.
use Rattle.std.proofs.Common.{◌≡◌, refl, ℕ, List, [], ◌∷◌, ◌++◌, take, drop, replicate, Some, None, Ok, Err}
use Rattle.vring.specs.declared.layouts.Layout.{Layout}
use Rattle.vring.specs.declared.faults.RingFault.TheVariants as faults
use Rattle.vring.specs.Bytes.{u16_at, u32_at, u64_at}
use Rattle.vring.specs.Pieces.{total, gathered, scattered}
use Rattle.vring.specs.Chain.{descriptor_at, reached, is_writable, piece_at, fault_of, fault_at, first_fault, readable_of, writable_of, chain_of, chain_at}

abbrev small : Layout
small = record { size = 2; descriptors = 0; available = 32; used = 44; memory = 100 }

-- eight bytes at 80 are read, and four at 88 are written
abbrev one_chain : List ℕ
one_chain =
    80 ∷ 0 ∷ 0 ∷ 0 ∷ 0 ∷ 0 ∷ 0 ∷ 0 ∷ 8 ∷ 0 ∷ 0 ∷ 0 ∷ 1 ∷ 0 ∷ 1 ∷ 0
    ∷ 88 ∷ 0 ∷ 0 ∷ 0 ∷ 0 ∷ 0 ∷ 0 ∷ 0 ∷ 4 ∷ 0 ∷ 0 ∷ 0 ∷ 2 ∷ 0 ∷ 7 ∷ 0
    ∷ 0 ∷ 0 ∷ 1 ∷ 0 ∷ 0 ∷ 0 ∷ 0 ∷ 0 ∷ 0 ∷ 0 ∷ replicate 58 0

-- the second descriptor leads back to the first
abbrev no_end : List ℕ
no_end =
    80 ∷ 0 ∷ 0 ∷ 0 ∷ 0 ∷ 0 ∷ 0 ∷ 0 ∷ 8 ∷ 0 ∷ 0 ∷ 0 ∷ 1 ∷ 0 ∷ 1 ∷ 0
    ∷ 88 ∷ 0 ∷ 0 ∷ 0 ∷ 0 ∷ 0 ∷ 0 ∷ 0 ∷ 4 ∷ 0 ∷ 0 ∷ 0 ∷ 1 ∷ 0 ∷ 0 ∷ 0
    ∷ 0 ∷ 0 ∷ 1 ∷ 0 ∷ 0 ∷ 0 ∷ 0 ∷ 0 ∷ 0 ∷ 0 ∷ replicate 58 0

pub chain_found : chain_at one_chain small 0 ≡ Ok (Some (record { head = 0; readable = record { addr = 80; len = 8 } ∷ []; writable = record { addr = 88; len = 4 } ∷ [] }))
unfolding chain_at chain_of first_fault fault_at fault_of readable_of writable_of is_writable piece_at reached descriptor_at total u16_at u32_at u64_at
chain_found = refl

pub none_found : chain_at one_chain small 1 ≡ Ok None
unfolding chain_at u16_at
none_found = refl

pub jump_found : chain_at no_end small 65000 ≡ Err (faults.Jump 537)
unfolding chain_at u16_at
jump_found = refl

-- the available ring's first entry is 2
pub head_found : chain_at (take 36 one_chain ++ 2 ∷ drop 37 one_chain) small 0 ≡ Err (faults.BadIndex 2)
unfolding chain_at u16_at
head_found = refl

pub loop_found : chain_at no_end small 0 ≡ Err faults.Loop
unfolding chain_at chain_of first_fault fault_at fault_of readable_of writable_of is_writable piece_at reached descriptor_at total u16_at u32_at u64_at
loop_found = refl

-- a descriptor inside the loop is indirect: that is found before the loop is
pub indirect_found : chain_at (take 28 no_end ++ 5 ∷ drop 29 no_end) small 0 ≡ Err (faults.Indirect 1)
unfolding chain_at chain_of first_fault fault_at fault_of readable_of writable_of is_writable piece_at reached descriptor_at total u16_at u32_at u64_at
indirect_found = refl

-- the first one is writable, and the second isn't
pub order_found : chain_at (take 12 one_chain ++ 3 ∷ take 15 (drop 13 one_chain) ++ 0 ∷ drop 29 one_chain) small 0 ≡ Err (faults.Order 1)
unfolding chain_at chain_of first_fault fault_at fault_of readable_of writable_of is_writable piece_at reached descriptor_at total u16_at u32_at u64_at
order_found = refl

-- the second one is outside, by one byte
pub outside_found : chain_at (take 24 one_chain ++ 13 ∷ drop 25 one_chain) small 0 ≡ Err (faults.Outside 88 13)
unfolding chain_at chain_of first_fault fault_at fault_of readable_of writable_of is_writable piece_at reached descriptor_at total u16_at u32_at u64_at
outside_found = refl

-- the first one leads to a third, which isn't there
pub index_found : chain_at (take 14 one_chain ++ 2 ∷ drop 15 one_chain) small 0 ≡ Err (faults.BadIndex 2)
unfolding chain_at chain_of first_fault fault_at fault_of readable_of writable_of is_writable piece_at reached descriptor_at total u16_at u32_at u64_at
index_found = refl

-- of two pieces on the same byte, the later write stands
pub scatter_found : scattered (1 ∷ 2 ∷ 3 ∷ 4 ∷ []) (record { addr = 0; len = 2 } ∷ record { addr = 1; len = 2 } ∷ []) (7 ∷ 8 ∷ 9 ∷ []) ≡ 7 ∷ 9 ∷ 3 ∷ 4 ∷ []
unfolding scattered
scatter_found = refl

pub gather_found : gathered (1 ∷ 2 ∷ 3 ∷ 4 ∷ []) (record { addr = 2; len = 2 } ∷ record { addr = 4; len = 0 } ∷ record { addr = 1; len = 2 } ∷ []) ≡ 3 ∷ 4 ∷ 2 ∷ 3 ∷ []
gather_found = refl
