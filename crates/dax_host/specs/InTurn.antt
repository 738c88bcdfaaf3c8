-- What comes of a request that goes through a queue to a daemon that stays as it is, in the turn of the
-- file that it names.
use Rattle.std.specs.Prelude.{◌≡◌, ℕ, true, List, None, Result, Ok, Err, ◌⊎◌}
use Rattle.plain_file.specs.declared.refusals.Memory.{Memory}
use Rattle.fuse_device.specs.State.{State, World}
use Rattle.guest_wire.specs.declared.wires.WireError.{WireError}
use Rattle.guest_wire.specs.declared.wires.WireError.TheVariants as errors
use Rattle.guest_wire.specs.Wires.{WireView, Sent, IsCarried, IsSeen}
use Rattle.dax_host.specs.Queue.{carried, given_up}
use Rattle.dax_host.specs.Carrying.{Host, queue_of, IsUnsent, IsGivenUp}

-- an honest wire to a daemon that stays as it is
abbrev pub shared_wire : State → WireView
shared_wire s = record { honest = true; over = None; faults = 0; stays = true; state = s }

-- What a request that the daemon has comes to: the turn of the file that it names is had and given back, and in it the daemon's step is made, or for want of memory nothing. A request that names no file comes to the same without a turn.
abbrev pub ServesInTurn : World → Sent → Result (List ℕ) Memory → World → Type 0
ServesInTurn old sent (Ok bytes) new = IsCarried (shared_wire old.state) old sent bytes new
ServesInTurn old sent (Err e) new = IsSeen (shared_wire old.state) old sent new

-- the request was served in its turn, and went through the queue with these bytes as its answer
pub record IsCarriedInTurn (old : Host) (sent : Sent) (bytes : List ℕ) (new : Host) : Type 0 where
  pub served : IsCarried (shared_wire old.world.state) old.world sent bytes new.world
  pub queue : new.queue ≡ carried (queue_of old.queue sent) sent.bytes sent.room bytes

-- the turn was had and given back, nothing else was done, and the request was taken back with no answer
pub record IsGivenUpInTurn (old : Host) (sent : Sent) (new : Host) : Type 0 where
  pub seen : IsSeen (shared_wire old.world.state) old.world sent new.world
  pub queue : new.queue ≡ given_up (queue_of old.queue sent) sent.bytes sent.room

-- What comes of a request: its answer is brought back. For want of memory it wasn't sent, as it wanted a larger queue, or it was given up before its turn or in it, or its answer reached the driver and wasn't copied.
abbrev pub CarriesInTurn : Host → Sent → Result (List ℕ) WireError → Host → Type 0
CarriesInTurn old sent (Ok bytes) new = IsCarriedInTurn old sent bytes new
CarriesInTurn old sent (Err errors.Memory) new = IsUnsent old sent new ⊎ IsGivenUp old sent new ⊎ IsGivenUpInTurn old sent new ⊎ ((bytes : List ℕ) × IsCarriedInTurn old sent bytes new)
CarriesInTurn old sent (Err errors.Fault) new = ⊥
