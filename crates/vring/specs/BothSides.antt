-- What one side of a ring writes is what the other reads, whatever stood in the memory before.
use Rattle.std.specs.Prelude.{◌≡◌, ℕ, ◌^◌, ◌<◌, ◌≤◌, true, List, length, Some, Ok}
use Rattle.plain_file.specs.Limits.{max_part}
use Rattle.vring.specs.declared.chains.Piece.{Piece}
use Rattle.vring.specs.Layout.{is_allowed}
use Rattle.vring.specs.Pieces.{total, gathered, scattered}
use Rattle.vring.specs.Chain.{chain_at}
use Rattle.vring.specs.Ring.{RingView, used_pushed}
use Rattle.vring.specs.Driver.{DriverView, IsQueueSize, IsOffer, driver_layout, offered_in, offered_chain, offered_room, used_at, written_in}

-- a device that has seen as many chains as were offered pops what the driver offers
abbrev pub OfferedIsPopped : Type 0
OfferedIsPopped = (v : DriverView) (mem bytes : List ℕ) (room : ℕ) → IsOffer v.size v.part v.offered (length bytes) room → length mem ≡ (driver_layout v.size v.part).memory → chain_at (offered_in v mem bytes room) (driver_layout v.size v.part) v.offered ≡ Ok (Some (offered_chain v.size v.part (length bytes) room))

-- the bytes that it gathers of that chain are those that were offered
abbrev pub OfferedIsGathered : Type 0
OfferedIsGathered = (v : DriverView) (mem bytes : List ℕ) (room : ℕ) → IsOffer v.size v.part v.offered (length bytes) room → length mem ≡ (driver_layout v.size v.part).memory → gathered (offered_in v mem bytes room) (offered_chain v.size v.part (length bytes) room).readable ≡ bytes

-- what a device pushes that has pushed as many chains as were taken back, the driver takes
abbrev pub PushedIsTaken : Type 0
PushedIsTaken = (mem : List ℕ) (r : RingView) (size part room len : ℕ) → IsQueueSize size → r.layout ≡ driver_layout size part → r.used_index < 2 ^ 16 → len ≤ room → room ≤ max_part → length mem ≡ (driver_layout size part).memory → used_at (used_pushed r mem 0 len) size r.used_index (Some room) ≡ Ok (Some (record { head = 0; len = len }))

-- what the device scattered into the offered room before it pushed, the driver finds there
abbrev pub ScatteredIsWritten : Type 0
ScatteredIsWritten = (mem bytes : List ℕ) (pieces : List Piece) (r : RingView) (size part room head count len : ℕ) → IsQueueSize size → r.layout ≡ driver_layout size part → pieces ≡ offered_room size part room → len ≡ length bytes → len ≤ room → room ≤ part → length mem ≡ (driver_layout size part).memory → written_in (used_pushed r (scattered mem pieces bytes) head count) size part len ≡ bytes

-- the pieces of the offered room take as many bytes as were offered
abbrev pub RoomIsOffered : Type 0
RoomIsOffered = (pieces : List Piece) (size part room : ℕ) → pieces ≡ offered_room size part room → total pieces ≡ room

-- a ring of the driver's areas is made
abbrev pub DriverAreasAreAllowed : Type 0
DriverAreasAreAllowed = (size part : ℕ) → IsQueueSize size → is_allowed (driver_layout size part) ≡ true
