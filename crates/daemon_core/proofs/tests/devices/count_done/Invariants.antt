use Rattle.fuse_device.specs.Promises.{IsServable, world}
use Rattle.daemon_core.proofs.tests.devices.count_done.Given as goal

abbrev pub invariant-loop-turn : goal.invariant-loop-turn
invariant-loop-turn l = IsServable (world l.daemon l.files l.map)
