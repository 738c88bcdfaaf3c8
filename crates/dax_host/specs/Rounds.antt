-- What each side of a queue reads of a request that goes through it.
use Rattle.std.specs.Prelude.{◌≡◌, ℕ, ◌^◌, ◌<◌, ◌≤◌, true, List, length, Some, Ok}
use Rattle.plain_file.specs.Limits.{max_part}
use Rattle.vring.specs.Chain.{chain_at}
use Rattle.vring.specs.Driver.{IsQueueSize, offered_chain, used_at, written_in}
use Rattle.vring.specs.Pieces.{gathered}
use Rattle.dax_host.specs.Queue.{QueueView, IsIdle, fresh_queue, takes, queue_for, after_offer, carried, given_up}

-- a queue in which these bytes may be offered, with so much room
pub record MayOffer (q : QueueView) (readable : List ℕ) (room : ℕ) : Type 0 where
  pub idle : IsIdle q
  pub index : q.driver.offered < 2 ^ 16
  pub len : length readable ≤ q.driver.part
  pub most : room ≤ q.driver.part

-- The device finds the chain that was offered, and in it the request's bytes. The driver finds the entry
-- of this chain with the answer's length, and in the room the answer. Then the queue is idle.
pub record IsRead (q : QueueView) (readable : List ℕ) (room : ℕ) (answer : List ℕ) : Type 0 where
  pub chain : chain_at (after_offer q readable room).memory q.ring.layout q.ring.seen ≡ Ok (Some (offered_chain q.driver.size q.driver.part (length readable) room))
  pub request : gathered (after_offer q readable room).memory (offered_chain q.driver.size q.driver.part (length readable) room).readable ≡ readable
  pub entry : used_at (carried q readable room answer).memory q.driver.size q.driver.taken (Some room) ≡ Ok (Some (record { head = 0; len = length answer }))
  pub reply : written_in (carried q readable room answer).memory q.driver.size q.driver.part (length answer) ≡ answer
  pub idle : IsIdle (carried q readable room answer)

-- what goes through an idle queue is read on its other side, where the room takes the answer
abbrev pub CarriedIsRead : Type 0
CarriedIsRead = (q : QueueView) (readable : List ℕ) (room : ℕ) (answer : List ℕ) → MayOffer q readable room → length answer ≤ room → IsRead q readable room answer

-- a request that is given up leaves an idle queue
abbrev pub GivenUpIsIdle : Type 0
GivenUpIsIdle = (q : QueueView) (readable : List ℕ) (room : ℕ) → MayOffer q readable room → IsIdle (given_up q readable room)

-- a queue in which nothing was offered yet is idle
abbrev pub FreshIsIdle : Type 0
FreshIsIdle = (size part : ℕ) → IsQueueSize size → part ≤ max_part → IsIdle (fresh_queue size part)

-- an idle queue that takes both parts of a request
pub record HasRoom (q : QueueView) (len room : ℕ) : Type 0 where
  pub idle : IsIdle q
  pub takes : takes q.driver.part len room ≡ true

-- a queue that a request goes through takes it
abbrev pub QueueForHasRoom : Type 0
QueueForHasRoom = (q : QueueView) (len room : ℕ) → IsIdle q → len ≤ max_part → room ≤ max_part → HasRoom (queue_for q len room) len room
