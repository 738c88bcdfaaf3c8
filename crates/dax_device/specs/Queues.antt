-- The device behind a queue: what it makes of the chains that the guest offers.
use Rattle.std.specs.Prelude.{◌≡◌, ℕ, ◌+◌, ◌≤◌, List, length, Option, Some, None, Result, Ok, Err}
use Rattle.plain_file.specs.Limits.{max_part}
use Rattle.fuse_device.specs.State.{World}
use Rattle.fuse_device.specs.Steps.{Step, device_step}
use Rattle.vring.specs.declared.chains.Chain.{Chain}
use Rattle.vring.specs.declared.faults.RingFault.{RingFault}
use Rattle.vring.specs.Bytes.{u16_at}
use Rattle.vring.specs.Pieces.{total, gathered, scattered}
use Rattle.vring.specs.Chain.{chain_at, ahead}
use Rattle.vring.specs.Ring.{RingView, next_index, used_pushed}
use Rattle.dax_device.specs.declared.queue_devices.Turn.{Turn}
use Rattle.dax_device.specs.declared.queue_devices.Turn.TheVariants as turns
use Rattle.dax_device.specs.Answers.{IsAnswer}

-- the device behind a queue: what it holds with its boards, the guest's memory, and the ring in it
pub record DeviceView : Type 0 where
  pub world : World
  pub memory : List ℕ
  pub ring : RingView

-- how many chains are offered: so far is the available index ahead of the seen one
abbrev pub offered : DeviceView → ℕ
offered d = ahead (u16_at d.memory (d.ring.layout.available + 2)) d.ring.seen

-- what the device finds next: a chain, none, or a fault
abbrev pub next_of : DeviceView → Result (Option Chain) RingFault
next_of d = chain_at d.memory d.ring.layout d.ring.seen

-- what the device reads of a chain, before anything is written
abbrev pub readable_in : DeviceView → Chain → List ℕ
readable_in d chain = gathered d.memory chain.readable

-- the device's step on a chain
abbrev pub step_on : DeviceView → Chain → Step
step_on d chain = device_step d.world (readable_in d chain) (total chain.writable)

-- the bytes that it answers
abbrev pub answer_to : DeviceView → Chain → List ℕ
answer_to d chain = (step_on d chain).1

-- a chain is answered: the answer is scattered into the writable pieces, and the chain is pushed with its length
abbrev pub answered : DeviceView → Chain → DeviceView
answered d chain = record {
  world = (step_on d chain).0;
  memory = used_pushed d.ring (scattered d.memory chain.writable (answer_to d chain)) chain.head (length (answer_to d chain));
  ring = record d.ring { used_index = next_index d.ring.used_index };
}

-- a chain was popped
abbrev pub popped : DeviceView → DeviceView
popped d = record d { ring = record d.ring { seen = next_index d.ring.seen } }

-- the next chain was served: these were its readable bytes, and this went into its writable part
pub record IsServed (old : DeviceView) (chain : Chain) (readable answer : List ℕ) (new : DeviceView) : Type 0 where
  pub found : next_of old ≡ Ok (Some chain)
  pub readable_is : readable ≡ readable_in old chain
  pub answer_is : answer ≡ answer_to old chain
  pub after : new ≡ answered (popped old) chain
  pub within : length readable ≤ max_part
  pub fits : length answer ≤ max_part
  pub reply : IsAnswer readable answer

-- What a turn for one chain did: a chain was served, there was none, or a fault was found. Only the first changes anything.
abbrev pub Advances : DeviceView → Turn → Chain → List ℕ → DeviceView → Type 0
Advances old (turns.Served answer) chain readable new = IsServed old chain readable answer new
Advances old turns.Idle chain readable new = (next_of old ≡ Ok None) × (new ≡ old)
Advances old (turns.Fault fault) chain readable new = (next_of old ≡ Err fault) × (new ≡ old)
