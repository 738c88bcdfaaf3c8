-- A wire to a daemon of its own, in the caller's thread.
use Rattle.std.specs.Prelude.{ℕ, List, true, false, None, Result}
use Rattle.guest_wire.specs.declared.wires.WireError.{WireError}
use Rattle.guest_wire.specs.Wires.{WireView, Boards, Sent, world_at}
use Rattle.dax_host.specs.Queue.{QueueView}
use Rattle.dax_host.specs.Carrying.{host, Carries}
use Rattle.dax_host.specs.declared.solo.SoloWire.{SoloWire}

-- what it means as a wire: it is honest, stands over nothing, and never fails
abbrev pub solo_wire : SoloWire → WireView
solo_wire w = record { honest = true; over = None; faults = 0; stays = false; state = w.daemon }

-- its queue
abbrev pub solo_queue : SoloWire → QueueView
solo_queue w = w.queue

-- what it answers to a request, and leaves: the request went through the queue to the daemon
abbrev pub SoloGives : SoloWire → Boards → Sent → Result (List ℕ) WireError → SoloWire → Boards → Type 0
SoloGives before old sent result after new =
    Carries (host (solo_queue before) (world_at (solo_wire before) old)) sent result (host (solo_queue after) (world_at (solo_wire after) new))
