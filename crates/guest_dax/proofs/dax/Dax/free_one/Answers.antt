use Rattle.guest_dax.specs.Stands.{stand}
use Rattle.guest_dax.proofs.Walking.{Keeps-map, Keeps-both}
use Rattle.guest_dax.proofs.Forgetting.{KeepsMap-forgot}
use Rattle.guest_dax.proofs.Counting.{freed-or-none}
use Rattle.guest_dax.proofs.dax.Dax.free_one.Goals as goal

pub returns-in-Ok-clause-keeps : goal.returns-in-Ok-clause-keeps
returns-in-Ok-clause-keeps g c =
    let s = stand (g.W.Wire.wire c.args.self.now.driver.wire) (g.F.FileBoard.board c.args.self.now.files) (g.R.MapBoard.map c.args.self.now.ranges) in
    let t = stand (g.W.Wire.wire c.reclaim_one.new.self.driver.wire) (g.F.FileBoard.board c.reclaim_one.new.self.files) (g.R.MapBoard.map c.reclaim_one.new.self.ranges) in
    Keeps-both s t _ c.reclaim_one.ensures.keeps (Keeps-map t _ (KeepsMap-forgot t.map _ c.forget_looks.ensures))

pub returns-in-Ok-clause-frees : goal.returns-in-Ok-clause-frees
returns-in-Ok-clause-frees g c =
    let s = stand (g.W.Wire.wire c.args.self.now.driver.wire) (g.F.FileBoard.board c.args.self.now.files) (g.R.MapBoard.map c.args.self.now.ranges) in
    let t = stand (g.W.Wire.wire c.reclaim_one.new.self.driver.wire) (g.F.FileBoard.board c.reclaim_one.new.self.files) (g.R.MapBoard.map c.reclaim_one.new.self.ranges) in
    freed-or-none s t c.in-Ok.field-0 _ c.in-Ok.ensures.reclaims c.forget_looks.ensures
