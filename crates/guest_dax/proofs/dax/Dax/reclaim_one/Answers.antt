use Rattle.std.proofs.Common.{◌∙◌}
use Rattle.guest_dax.specs.Stands.{stand}
use Rattle.guest_dax.proofs.Walking.{Keeps-map, Keeps-both}
use Rattle.guest_dax.proofs.FreeingLaws.{IsFreed-kept}
use Rattle.guest_dax.proofs.Removing.{freed-by-kept}
use Rattle.guest_dax.proofs.dax.Dax.reclaim_one.Goals as goal

pub returns-in-Ok-true-clause-keeps : goal.returns-in-Ok-true-clause-keeps
returns-in-Ok-true-clause-keeps g c =
    let s = stand (g.W.Wire.wire c.args.self.now.driver.wire) (g.F.FileBoard.board c.args.self.now.files) (g.R.MapBoard.map c.args.self.now.ranges) in
    let t = stand (g.W.Wire.wire c.free_round.new.self.driver.wire) (g.F.FileBoard.board c.free_round.new.self.files) (g.R.MapBoard.map c.free_round.new.self.ranges) in
    Keeps-both s t _ c.free_round.ensures.walks.keeps (Keeps-map t _ c.forget.ensures.keeps)

pub returns-in-Ok-true-clause-reclaims : goal.returns-in-Ok-true-clause-reclaims
returns-in-Ok-true-clause-reclaims g c =
    let (hands, some, freed) = rw c.in-Ok-true.field-0-test at c.in-Ok-true.ensures.round in
    (c.forget.ensures.hands ∙ hands, c.forget.ensures.looks, IsFreed-kept _ _ _ c.forget.ensures.logs freed)

pub returns-in-Err-clause-keeps : goal.returns-in-Err-clause-keeps
returns-in-Err-clause-keeps g c =
    let s = stand (g.W.Wire.wire c.args.self.now.driver.wire) (g.F.FileBoard.board c.args.self.now.files) (g.R.MapBoard.map c.args.self.now.ranges) in
    let t = stand (g.W.Wire.wire c.free_round.new.self.driver.wire) (g.F.FileBoard.board c.free_round.new.self.files) (g.R.MapBoard.map c.free_round.new.self.ranges) in
    Keeps-both s t _ c.free_round.ensures.walks.keeps (Keeps-map t _ c.forget-in-Err.ensures.keeps)

pub returns-in-Ok-true-clause-removed : goal.returns-in-Ok-true-clause-removed
returns-in-Ok-true-clause-removed g c freed =
    let s = stand (g.W.Wire.wire c.args.self.now.driver.wire) (g.F.FileBoard.board c.args.self.now.files) (g.R.MapBoard.map c.args.self.now.ranges) in
    let t = stand (g.W.Wire.wire c.free_round.new.self.driver.wire) (g.F.FileBoard.board c.free_round.new.self.files) (g.R.MapBoard.map c.free_round.new.self.ranges) in
    freed-by-kept g.W.Wire.wire g.W.Wire.gives c.args.self.now.driver.wire c.args.self.now.driver.unique _ _ s.map t.map (g.R.MapBoard.map c.forget.new.ranges) c.forget.ensures.logs (c.in-Ok-true.ensures.removed c.in-Ok-true.field-0-test)
