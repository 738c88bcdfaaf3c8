use Rattle.guest_wire.specs.Wires.{boards, CanShare}
use Rattle.dax_host.proofs.host_tests.session.Given as goal

abbrev pub invariant-loop-call : goal.invariant-loop-call
invariant-loop-call g l = CanShare l.client.wire.daemon.now (boards l.files l.map)
