-- What comes of a request that goes through a queue to a device: of the queue, and of the device with
-- its boards.
use Rattle.std.specs.Prelude.{◌≡◌, ℕ, false, List, length, Result, Ok, Err, ◌⊎◌}
use Rattle.fuse_device.specs.State.{World}
use Rattle.fuse_device.specs.Steps.{device_step}
use Rattle.guest_wire.specs.declared.wires.WireError.{WireError}
use Rattle.guest_wire.specs.declared.wires.WireError.TheVariants as errors
use Rattle.guest_wire.specs.Wires.{Sent, IsStep}
use Rattle.dax_host.specs.Queue.{QueueView, takes, queue_for, carried, given_up}

-- a queue, and the device behind it with its boards
pub record Host : Type 0 where
  pub queue : QueueView
  pub world : World

-- a queue with a device behind it
abbrev pub host : QueueView → World → Host
host queue world = record { queue = queue; world = world }

-- the queue that a request goes through
abbrev pub queue_of : QueueView → Sent → QueueView
queue_of q sent = queue_for q (length sent.bytes) sent.room

-- the bytes and the device are what the device's step gives, and the request went through the queue with these bytes as its answer
pub record IsCarried (old : Host) (sent : Sent) (bytes : List ℕ) (new : Host) : Type 0 where
  pub step : IsStep old.world sent bytes new.world
  pub queue : new.queue ≡ carried (queue_of old.queue sent) sent.bytes sent.room bytes

-- the device is as it was, and the request was taken back with no answer
pub record IsGivenUp (old : Host) (sent : Sent) (new : Host) : Type 0 where
  pub world : new.world ≡ old.world
  pub queue : new.queue ≡ given_up (queue_of old.queue sent) sent.bytes sent.room

-- the queue that is there doesn't take the request, and nothing has changed
pub record IsUnsent (old : Host) (sent : Sent) (new : Host) : Type 0 where
  pub small : takes old.queue.driver.part (length sent.bytes) sent.room ≡ false
  pub same : new ≡ old

-- What comes of a request: its answer is brought back. For want of memory it wasn't sent, as it wanted a larger queue, or it was given up, or its answer reached the driver and wasn't copied.
abbrev pub Carries : Host → Sent → Result (List ℕ) WireError → Host → Type 0
Carries old sent (Ok bytes) new = IsCarried old sent bytes new
Carries old sent (Err errors.Memory) new = IsUnsent old sent new ⊎ IsGivenUp old sent new ⊎ IsCarried old sent (device_step old.world sent.bytes sent.room).1 new
Carries old sent (Err errors.Fault) new = ⊥
