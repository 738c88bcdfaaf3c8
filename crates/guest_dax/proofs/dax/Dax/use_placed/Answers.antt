use Rattle.std.proofs.Common.{None}
use Rattle.guest_dax.specs.Stands.{stand}
use Rattle.guest_dax.proofs.Keeping.{KeepsMap-moves}
use Rattle.guest_dax.proofs.Walking.{Keeps-both, Keeps-map}
use Rattle.guest_dax.proofs.dax.Dax.use_placed.Goals as goal

pub returns-in-Ok-Some-clause-keeps : goal.returns-in-Ok-Some-clause-keeps
returns-in-Ok-Some-clause-keeps g c =
    let s = stand (g.W.Wire.wire c.args.self.now.driver.wire) (g.F.FileBoard.board c.args.self.now.files) (g.R.MapBoard.map c.args.self.now.ranges) in
    let t = stand (g.W.Wire.wire c.args.self.now.driver.wire) (g.F.FileBoard.board c.args.self.now.files) (g.R.MapBoard.map c.settle_free.new.self) in
    Keeps-both s t _ (Keeps-map s t.map (KeepsMap-moves s.map None t.map c.settle_free.ensures)) c.pin_placed.ensures.keeps

pub returns-in-Err-clause-keeps : goal.returns-in-Err-clause-keeps
returns-in-Err-clause-keeps g c =
    let s = stand (g.W.Wire.wire c.args.self.now.driver.wire) (g.F.FileBoard.board c.args.self.now.files) (g.R.MapBoard.map c.args.self.now.ranges) in
    let t = stand (g.W.Wire.wire c.args.self.now.driver.wire) (g.F.FileBoard.board c.args.self.now.files) (g.R.MapBoard.map c.settle_free.new.self) in
    Keeps-both s t _ (Keeps-map s t.map (KeepsMap-moves s.map None t.map c.settle_free.ensures)) c.pin_placed.ensures.keeps
