use Rattle.std.proofs.Common.{◌∙◌, sym}
use Rattle.window_access.proofs.Finding.{none_each}
use Rattle.window_access.proofs.Loading.{granted_mapped}
use Rattle.window_access.specs.Access.{fails}
use Rattle.window_access.specs.declared.refusals.Cause.TheVariants as causes
use Rattle.window_access.proofs.checks.check_store.Goals as goal

pub returns-clause-mapped : goal.returns-clause-mapped
returns-clause-mapped g c =
    let v = g.F.FileBoard.board c.args.files.now in
    granted_mapped v c.args.map.now c.args.moffset c.args.len (none_each (fails v c.args.map.now causes.Unmapped) c.args.moffset c.args.len (sym c.first_unmapped.ensures.value ∙ c.in_default.is))
