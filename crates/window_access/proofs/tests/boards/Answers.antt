use Rattle.window_access.proofs.Names.{can_access_from}
use Rattle.window_access.proofs.tests.boards.Goals as goal

pub returns : goal.returns
returns c = can_access_from c.in_ok-new.field-0 c.in_ok-new-2.field-0 0 1024 _ c.in_ok-new.ensures c.in_ok-new-2.ensures.new
