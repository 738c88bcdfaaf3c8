use Rattle.std.proofs.Common.{arith}
use Rattle.window_access.proofs.Names.{can_access_after_set}
use Rattle.window_access.proofs.tests.set.Goals as goal

pub returns : goal.returns
returns g c = rw c.set.ensures.painted (can_access_after_set c.args.files.now c.args.map.now _ c.check_whole.ensures (omega arith) (omega arith) c.requires)
