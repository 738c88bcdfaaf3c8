use Rattle.std.proofs.Common.{◌∙◌, ap, sym}
use Rattle.plain_file.specs.Board.{BoardView}
use Rattle.window_access.proofs.Finding.{none_each}
use Rattle.window_access.specs.Access.{fails, first_failing}
use Rattle.window_access.specs.declared.refusals.Cause.TheVariants as causes
use Rattle.window_access.proofs.checks.check_load.Goals as goal

pub returns-clause-mapped : goal.returns-clause-mapped
returns-clause-mapped g c =
    none_each (fails (g.F.FileBoard.board c.args.files.now) c.args.map.now causes.Unmapped) c.args.moffset c.args.len (sym c.first_unmapped.ensures.value ∙ c.in_default.is)

pub returns-clause-inside : goal.returns-clause-inside
returns-clause-inside g c =
    none_each (fails (g.F.FileBoard.board c.args.files.now) c.args.map.now causes.PastEnd) c.args.moffset c.args.len
    (ap (λ (v : BoardView). first_failing v c.args.map.now causes.PastEnd c.args.moffset c.args.len) (sym c.first_unmapped.ensures.same) ∙ c.in_ok-check.ensures.ok)
