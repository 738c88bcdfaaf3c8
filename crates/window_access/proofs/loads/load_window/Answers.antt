use Rattle.std.proofs.Common.{◌≡◌, sym, subst, arith}
use Rattle.std.proofs.lemmas.Grind.{common_steps}
use Rattle.window_access.specs.Access.{AreShown, loaded}
use Rattle.window_access.proofs.loads.load_window.Goals as goal

pub returns-clause-shown : goal.returns-clause-shown
returns-clause-shown g c =
    let v = g.F.FileBoard.board c.args.files.now in
    let e : c.from_vec.result ≡ loaded v c.args.map.now c.args.moffset c.args.len = grind (arith, common_steps) in
    subst (AreShown v c.args.map.now c.args.moffset c.args.len) (sym e) c.in_ok-load_window_into.ensures.shown
