-- A queue with both its sides over one memory: how far a request has come through it, and what it
-- leaves there.
use Rattle.std.specs.Prelude.{◌≡◌, ◌≤◌, ℕ, Bool, false, ◌&&◌, nat_le, List, length, replicate, Some, None, ◌⊎◌, if◌then◌else◌}
use Rattle.plain_file.specs.Limits.{max_part}
use Rattle.vring.specs.declared.chains.Chain.{Chain}
use Rattle.vring.specs.Chain.{ChainLiesIn}
use Rattle.vring.specs.Driver.{DriverView, IsQueueSize, driver_layout, offered_in, offered_room}
use Rattle.vring.specs.Pieces.{scattered}
use Rattle.vring.specs.Ring.{RingView, next_index, used_pushed}

-- both sides of a queue, and the memory in which it lies
pub record QueueView : Type 0 where
  pub driver : DriverView
  pub ring : RingView
  pub memory : List ℕ

-- both sides lie in the same memory, and the driver took back what the device pushed
pub record IsSetUp (q : QueueView) : Type 0 where
  pub size : IsQueueSize q.driver.size
  pub part : q.driver.part ≤ max_part
  pub layout : q.ring.layout ≡ driver_layout q.driver.size q.driver.part
  pub len : length q.memory ≡ (driver_layout q.driver.size q.driver.part).memory
  pub used : q.ring.used_index ≡ q.driver.taken

-- nothing is offered, and the device has seen all
pub record IsIdle (q : QueueView) : Type 0 where
  pub set_up : IsSetUp q
  pub seen : q.ring.seen ≡ q.driver.offered
  pub even : q.driver.taken ≡ q.driver.offered
  pub free : q.driver.room ≡ None

-- a request with so much room is offered, and wasn't taken back
pub record IsOffered (q : QueueView) (room : ℕ) : Type 0 where
  pub set_up : IsSetUp q
  pub behind : q.driver.offered ≡ next_index q.driver.taken
  pub offered : q.driver.room ≡ Some room

-- the device has the chain, whose room takes the answer
pub record IsDelivered (q : QueueView) (room : ℕ) (chain : Chain) : Type 0 where
  pub out : IsOffered q room
  pub seen : q.ring.seen ≡ q.driver.offered
  pub writable : chain.writable ≡ offered_room q.driver.size q.driver.part room
  pub lies : ChainLiesIn (length q.memory) chain

-- a queue of so many descriptors, with room for so many bytes of either part, in which nothing was offered yet: its memory is all 0
unfoldable pub fresh_queue : ℕ → ℕ → QueueView
fresh_queue size part = record {
  driver = record { size = size; part = part; offered = 0; taken = 0; room = None };
  ring = record { layout = driver_layout size part; seen = 0; used_index = 0 };
  memory = replicate (driver_layout size part).memory 0;
}

-- so many bytes of either part take both parts of a request: so many bytes, and so much room
abbrev pub takes : ℕ → ℕ → ℕ → Bool
takes part len room = nat_le len part && nat_le room part

-- the least of 8,192, 65,536 and the most bytes of a part that takes both parts
unfoldable pub part_for : ℕ → ℕ → ℕ
part_for len room = if takes 8192 len room then 8192 else if takes 65536 len room then 65536 else max_part

-- the queue that a request goes through: the one that is there, or, where both parts don't find room in that, one with more room in which nothing was offered yet
unfoldable pub queue_for : QueueView → ℕ → ℕ → QueueView
queue_for q len room = if takes q.driver.part len room then q else fresh_queue q.driver.size (part_for len room)

-- ---- a request's way through the queue

-- the driver offers a request of these bytes, with so much room for the answer
abbrev pub after_offer : QueueView → List ℕ → ℕ → QueueView
after_offer q readable room = record {
  driver = record q.driver { offered = next_index q.driver.offered; room = Some room };
  ring = q.ring;
  memory = offered_in q.driver q.memory readable room;
}

-- the device pops it
abbrev pub after_pop : QueueView → QueueView
after_pop q = record q { ring = record q.ring { seen = next_index q.ring.seen } }

-- the device writes an answer into the room
abbrev pub after_answer : QueueView → ℕ → List ℕ → QueueView
after_answer q room answer = record q { memory = scattered q.memory (offered_room q.driver.size q.driver.part room) answer }

-- the device pushes the request with so many bytes written, and the driver takes it back
abbrev pub after_return : QueueView → ℕ → QueueView
after_return q len = record {
  driver = record q.driver { taken = next_index q.driver.taken; room = None };
  ring = record q.ring { used_index = next_index q.ring.used_index };
  memory = used_pushed q.ring q.memory 0 len;
}

-- a request was offered, popped, answered by these bytes, and taken back
unfoldable pub carried : QueueView → List ℕ → ℕ → List ℕ → QueueView
carried q readable room answer = after_return (after_answer (after_pop (after_offer q readable room)) room answer) (length answer)

-- a request was offered, passed over by the device, and taken back with no answer
unfoldable pub given_up : QueueView → List ℕ → ℕ → QueueView
given_up q readable room = after_return (after_pop (after_offer q readable room)) 0

-- for want of memory a request wasn't brought to the device: the queue that is there doesn't take it, and is as it was, or the request was given up
abbrev pub IsNotBrought : QueueView → List ℕ → ℕ → QueueView → Type 0
IsNotBrought old readable room new = ((takes old.driver.part (length readable) room ≡ false) × (new ≡ old)) ⊎ (new ≡ given_up (queue_for old (length readable) room) readable room)
