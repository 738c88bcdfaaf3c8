use Rattle.std.proofs.Common.{false, ◌-◌}
use Rattle.file_share.specs.Turns.{HasOf}
use Rattle.file_share.proofs.tests.unlease_often.Given as goal

abbrev pub invariant-loop : goal.invariant-loop
invariant-loop l = HasOf l.table l.fn.pass.view.guest l.file false (l.count - l.counter) false l.pass
