use Rattle.std.proofs.Common.{false}
use Rattle.file_share.specs.Turns.{HasOf}
use Rattle.file_share.proofs.tests.resize_often.Given as goal

abbrev pub invariant-loop-round : goal.invariant-loop-round
invariant-loop-round g l = HasOf l.table l.fn.pass.view.guest l.file false 0 false l.pass
