use Rattle.std.proofs.Common.{false}
use Rattle.file_share.specs.Turns.{HasOf}
use Rattle.file_share.proofs.tests.lease_often.Given as goal

abbrev pub invariant-loop : goal.invariant-loop
invariant-loop g l = HasOf l.table l.fn.pass.view.guest l.file false l.counter false l.pass
