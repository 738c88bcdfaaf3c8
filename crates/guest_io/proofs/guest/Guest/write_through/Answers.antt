use Rattle.std.proofs.Common.{sym, subst, ℕ, ◌+◌, ◌≤◌, List, length, inl}
use Rattle.plain_file.specs.File.{reach, max_file}
use Rattle.guest_dax.specs.Stands.{stand}
use Rattle.guest_io.proofs.Entered.{undone-same}
use Rattle.guest_io.proofs.Passing.{LeavesAll-same}
use Rattle.guest_io.proofs.guest.Guest.write_through.Goals as goal

pub through_window-requires-clause-fits : goal.through_window-requires-clause-fits
unfolding reach
through_window-requires-clause-fits g c = subst (λ (b : List ℕ). c.args.off + length b ≤ max_file) (sym (c.in-Ok.ensures {u = tt})) c.requires.end

pub returns-in-Err-clause-leaves : goal.returns-in-Err-clause-leaves
returns-in-Err-clause-leaves g c = LeavesAll-same (stand (g.W.Wire.wire c.args.self.now.dax.driver.wire) (g.F.FileBoard.board c.args.self.now.dax.files) (g.R.MapBoard.map c.args.self.now.dax.ranges))

pub returns-in-Err-clause-goes : goal.returns-in-Err-clause-goes
returns-in-Err-clause-goes g c = (c.requires.looks, λ honest. inl (undone-same (g.F.FileBoard.board c.args.self.now.dax.files) c.args.file))
