use Rattle.std.proofs.Common.{false}
use Rattle.file_share.specs.Turns.{HasOf}
use Rattle.file_share.proofs.tests.take_bar.Given as goal

abbrev pub invariant-loop : goal.invariant-loop
invariant-loop g l = HasOf l.table l.fn.pass.view.guest l.file false 0 false l.pass
