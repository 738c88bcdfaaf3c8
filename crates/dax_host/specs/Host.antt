-- A wire to a daemon that stays as it is, and that other wires have too.
use Rattle.std.specs.Prelude.{ℕ, List, Result}
use Rattle.guest_wire.specs.declared.wires.WireError.{WireError}
use Rattle.guest_wire.specs.Wires.{WireView, Boards, Sent, world_at}
use Rattle.dax_host.specs.Queue.{QueueView}
use Rattle.dax_host.specs.Carrying.{host}
use Rattle.dax_host.specs.InTurn.{shared_wire, CarriesInTurn}
use Rattle.dax_host.specs.declared.host.HostWire.{HostWire}

-- what it means as a wire: it is honest, stands over nothing, never fails, and its daemon stays as it is
abbrev pub host_wire : HostWire → WireView
host_wire w = shared_wire w.daemon.now

-- its queue
abbrev pub host_queue : HostWire → QueueView
host_queue w = w.queue

-- what it answers to a request, and leaves: the request went through the queue to the daemon, in the turn of the file that it names
abbrev pub HostGives : HostWire → Boards → Sent → Result (List ℕ) WireError → HostWire → Boards → Type 0
HostGives before old sent result after new =
    CarriesInTurn (host (host_queue before) (world_at (host_wire before) old)) sent result (host (host_queue after) (world_at (host_wire after) new))
