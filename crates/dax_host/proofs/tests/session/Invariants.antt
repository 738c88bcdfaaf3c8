use Rattle.fuse_device.specs.Promises.{IsServable, world}
use Rattle.dax_host.proofs.tests.session.Given as goal

abbrev pub invariant-loop-call : goal.invariant-loop-call
invariant-loop-call g l = IsServable (world l.client.wire.daemon l.files l.map)
