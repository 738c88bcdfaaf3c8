use Rattle.window_access.proofs.Names.{can_access_after_clear}
use Rattle.window_access.proofs.tests.clear.Goals as goal

pub returns : goal.returns
returns g c = rw c.clear.ensures.wiped (can_access_after_clear c.args.files.now c.args.map.now c.args.moffset c.args.len c.check_whole.ensures c.requires)
