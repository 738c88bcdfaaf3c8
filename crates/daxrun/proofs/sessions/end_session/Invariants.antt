use Rattle.guest_wire.specs.Wires.{boards}
use Rattle.daxrun.specs.Requests.{IsLive}
use Rattle.daxrun.proofs.sessions.end_session.Given as goal

abbrev pub invariant-loop-at : goal.invariant-loop-at
invariant-loop-at g l = IsLive (g.W.Wire.wire l.client.wire) (boards l.files l.map)
