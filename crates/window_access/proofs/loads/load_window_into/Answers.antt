use Rattle.std.proofs.Common.{sym, subst, ℕ}
use Rattle.plain_file.specs.Board.{BoardView}
use Rattle.window_access.specs.Access.{CanAccess, IsGranted}
use Rattle.window_access.specs.declared.refusals.Cause.TheVariants as causes
use Rattle.window_access.proofs.Loading.{loaded_shown}
use Rattle.window_access.proofs.loads.load_window_into.Goals as goal

pub load-requires-clause-can : goal.load-requires-clause-can
load-requires-clause-can g c = subst (λ (v : BoardView). CanAccess v c.args.map.now) (sym c.check_load.ensures.same) (record { plain = c.requires.plain; names = c.requires.names })

pub returns-clause-shown : goal.returns-clause-shown
returns-clause-shown g c =
    let v = g.F.FileBoard.board c.args.files.now in
    loaded_shown v c.args.map.now c.args.moffset c.args.len (subst (λ (n : ℕ). IsGranted v c.args.map.now causes.PastEnd c.args.moffset n) c.from.ensures c.in_ok-check_load.ensures.inside)
