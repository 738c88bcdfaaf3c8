use Rattle.window_access.proofs.Storing.{can_after}
use Rattle.window_access.proofs.stores.write.Goals as goal

pub returns-clause-can : goal.returns-clause-can
returns-clause-can g c = can_after (g.F.FileBoard.board c.args.files.now) c.args.map.now _ _ c.apply.result (g.F.FileBoard.board c.apply.new.self) c.requires.can c.apply.ensures
