use Rattle.std.proofs.Common.{◌∙◌, sym, arith, length, ◌≤◌, ◌+◌, ◌*◌}
use Rattle.window_access.proofs.Finding.{find_sooner, find_first, none_each}
use Rattle.window_access.proofs.InPage.{past_window}
use Rattle.window_access.specs.Access.{fails}
use Rattle.window_access.specs.declared.refusals.Cause.TheVariants as causes
use Rattle.window_access.proofs.checks.first_unmapped.Goals as goal

pub returns-in-Some-clause-value : goal.returns-in-Some-clause-value
returns-in-Some-clause-value g c =
    sym (find_sooner (fails (g.F.FileBoard.board c.args.files.now) c.args.map.now causes.Unmapped) c.args.moffset c.min-inside.result c.args.len c.in-Some.at (omega arith) (sym c.first_failing.ensures.value ∙ c.in-Some.is))

pub returns-in-None-clause-value : goal.returns-in-None-clause-value
returns-in-None-clause-value g c =
    let v = g.F.FileBoard.board c.args.files.now in
    let past : 4096 * length c.args.map.now.table ≤ c.args.moffset + c.min-inside.result = omega arith in
    sym (find_first (fails v c.args.map.now causes.Unmapped) c.args.moffset c.args.len c.min-inside.result c.if-inside-len.true
    (none_each (fails v c.args.map.now causes.Unmapped) c.args.moffset c.min-inside.result (sym c.first_failing.ensures.value ∙ c.in-None.is))
    (past_window v c.args.map.now (c.args.moffset + c.min-inside.result) past))
