-- What the driver's side keeps, where its memory has what, and what its calls do.
use Rattle.std.specs.Prelude.{◌≡◌, ℕ, ◌+◌, ◌*◌, ◌%◌, ◌==◌, ◌≤◌, ◌<◌, ◌^◌, Bool, true, false, ◌&&◌, nat_le, List, [], ◌∷◌, length, take, drop, Option, Some, None, Result, Ok, Err, if◌then◌else◌}
use Rattle.std.specs.Int.{w16, to_le_bytes, is_power_of_two}
use Rattle.plain_file.specs.Limits.{max_part}
use Rattle.vring.specs.declared.layouts.Layout.{Layout}
use Rattle.vring.specs.declared.chains.Piece.{Piece}
use Rattle.vring.specs.declared.chains.Chain.{Chain}
use Rattle.vring.specs.declared.driver_side.Used.{Used}
use Rattle.vring.specs.declared.driver_side.BadUsed.{BadUsed}
use Rattle.vring.specs.Bytes.{put_at, u16_at, u32_at}
use Rattle.vring.specs.Spelling.{descriptor_bytes}
use Rattle.vring.specs.Ring.{next_index}

-- a driver's side as its calls see it
pub record DriverView : Type 0 where
  -- the queue size
  pub size : ℕ
  -- how many bytes either part of a chain may have
  pub part : ℕ
  -- how many chains were offered, and taken back, modulo 2 ^ 16
  pub offered : ℕ
  pub taken : ℕ
  -- the room of the chain that is offered, if there is one
  pub room : Option ℕ

-- the sizes that a driver's ring may have
pub record IsQueueSize (size : ℕ) : Type 0 where
  pub least : 4 ≤ size
  pub most : size ≤ 1024
  pub power : is_power_of_two size ≡ true

-- behind the areas stand the bytes that the device reads ..
abbrev pub readable_at : ℕ → ℕ
readable_at size = 28 * size + 16

-- .. and behind the most of these, as many bytes of room for what it writes
abbrev pub writable_at : ℕ → ℕ → ℕ
writable_at size part = readable_at size + part

-- where the areas lie in the driver's memory, which ends where the most of the room does
abbrev pub driver_layout : ℕ → ℕ → Layout
driver_layout size part = record { size = size; descriptors = 0; available = 16 * size; used = 20 * size + 8; memory = 28 * size + 16 + 2 * part }

-- The memory with a chain of these bytes and of so much room: the bytes, descriptor 0 of them with
-- NEXT, descriptor 1 of the room with WRITE, the entry of head 0, and then the available index.
unfoldable pub offered_in : DriverView → List ℕ → List ℕ → ℕ → List ℕ
offered_in v mem bytes room =
    let a = put_at mem (readable_at v.size) bytes in
    let b = put_at a 0 (descriptor_bytes (record { addr = readable_at v.size; len = length bytes; flags = 1; next = 1 })) in
    let c = put_at b 16 (descriptor_bytes (record { addr = writable_at v.size v.part; len = room; flags = 2; next = 0 })) in
    let d = put_at c (16 * v.size + 4 + 2 * (v.offered % v.size)) (to_le_bytes w16 0) in
    put_at d (16 * v.size + 2) (to_le_bytes w16 (next_index v.offered))

-- an entry is of the chain that is offered with this room
abbrev pub is_expected : Option ℕ → ℕ → ℕ → Bool
is_expected None id len = false
is_expected (Some room) id len = (id == 0) && nat_le len room

-- what stands in the used ring behind so many chains that were taken back: none, the chain, or a bad entry
unfoldable pub used_at : List ℕ → ℕ → ℕ → Option ℕ → Result (Option Used) BadUsed
used_at mem size taken room =
    let at = 20 * size + 8 + 4 + 8 * (taken % size) in
    let id = u32_at mem at in
    let len = u32_at mem (at + 4) in
    if u16_at mem (20 * size + 8 + 2) == taken then Ok None
    else if is_expected room id len then Ok (Some (record { head = 0; len = len }))
    else Err (record { id = id; len = len })

-- What was taken is what stands there. A chain raises the number of those that were taken back, and
-- none is offered then; whatever else comes leaves the driver's side as it was.
abbrev pub Takes : DriverView → List ℕ → Result (Option Used) BadUsed → DriverView → Type 0
Takes old mem (Ok (Some used)) new = (used_at mem old.size old.taken old.room ≡ Ok (Some used)) × (new ≡ record old { taken = next_index old.taken; room = None })
Takes old mem (Ok None) new = (used_at mem old.size old.taken old.room ≡ Ok None) × (new ≡ old)
Takes old mem (Err e) new = (used_at mem old.size old.taken old.room ≡ Err e) × (new ≡ old)

-- the first bytes of the room
abbrev pub written_in : List ℕ → ℕ → ℕ → ℕ → List ℕ
written_in mem size part len = take len (drop (writable_at size part) mem)

-- a chain that may be offered: so many bytes to read, and so much room
pub record IsOffer (size part offered len room : ℕ) : Type 0 where
  pub size_is : IsQueueSize size
  pub part_is : part ≤ max_part
  pub offered_is : offered < 2 ^ 16
  pub len_is : len ≤ part
  pub room_is : room ≤ part

-- the one piece of so much room, which the device may write
abbrev pub offered_room : ℕ → ℕ → ℕ → List Piece
offered_room size part room = record { addr = writable_at size part; len = room } ∷ []

-- the chain that the device finds then
abbrev pub offered_chain : ℕ → ℕ → ℕ → ℕ → Chain
offered_chain size part len room = record { head = 0; readable = record { addr = readable_at size; len = len } ∷ []; writable = offered_room size part room }
