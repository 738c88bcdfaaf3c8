use Rattle.fuse_device.specs.Promises.{IsServable, world}
use Rattle.daemon_core.proofs.tests.devices.odd_in.Given as goal

abbrev pub invariant-loop-way : goal.invariant-loop-way
invariant-loop-way l = IsServable (world l.daemon l.files l.map)
