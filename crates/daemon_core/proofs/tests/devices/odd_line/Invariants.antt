use Rattle.fuse_device.specs.Promises.{IsServable, world}
use Rattle.daemon_core.proofs.tests.devices.odd_line.Given as goal

abbrev pub invariant-loop-line : goal.invariant-loop-line
invariant-loop-line l = IsServable (world l.daemon l.files l.map)
