use Rattle.std.proofs.Common.{◌≡◌, length}
use Rattle.fuse_device.specs.Requests.{all_forgotten}
use Rattle.daemon_core.proofs.daemon.Daemon.give_back_each.Given as goal

abbrev pub invariant-loop-one : goal.invariant-loop-one
invariant-loop-one l = all_forgotten l.self l.rest ≡ all_forgotten l.fn.self l.ones

abbrev pub decreases-loop-one : goal.decreases-loop-one
decreases-loop-one l = length l.rest
