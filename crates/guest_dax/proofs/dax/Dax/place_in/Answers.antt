use Rattle.std.proofs.Common.{None, Some}
use Rattle.guest_dax.proofs.Upgrading.{placed-in}
use Rattle.guest_dax.specs.Stands.{stand}
use Rattle.guest_dax.proofs.Keeping.{KeepsMap-moves}
use Rattle.guest_dax.proofs.Walking.{Keeps-both, Keeps-map}
use Rattle.guest_dax.proofs.PinLaws.{PinsFound-keeps}
use Rattle.guest_dax.proofs.dax.Dax.place_in.Goals as goal

pub returns-in-Ok-clause-keeps : goal.returns-in-Ok-clause-keeps
returns-in-Ok-clause-keeps g c =
    let s = stand (g.W.Wire.wire c.args.self.now.driver.wire) (g.F.FileBoard.board c.args.self.now.files) (g.R.MapBoard.map c.args.self.now.ranges) in
    let t = stand (g.W.Wire.wire c.fill_range.new.self.driver.wire) (g.F.FileBoard.board c.fill_range.new.self.files) (g.R.MapBoard.map c.fill_range.new.self.ranges) in
    Keeps-both s t _ c.fill_range.ensures.keeps (Keeps-map t _ (PinsFound-keeps t.map c.args.file c.args.chunk c.args.mode (Some c.pin_settled.result) _ c.pin_settled.ensures.pins))

pub returns-in-Err-clause-keeps : goal.returns-in-Err-clause-keeps
returns-in-Err-clause-keeps g c =
    let s = stand (g.W.Wire.wire c.args.self.now.driver.wire) (g.F.FileBoard.board c.args.self.now.files) (g.R.MapBoard.map c.args.self.now.ranges) in
    let t = stand (g.W.Wire.wire c.fill_range.new.self.driver.wire) (g.F.FileBoard.board c.fill_range.new.self.files) (g.R.MapBoard.map c.fill_range.new.self.ranges) in
    Keeps-both s t _ c.fill_range.ensures.keeps (Keeps-map t _ (KeepsMap-moves t.map None _ c.settle_free.ensures))

pub returns-in-Ok-clause-placed : goal.returns-in-Ok-clause-placed
returns-in-Ok-clause-placed g c none =
    let (hands, log, pin, keeps) = c.pin_settled.ensures.pins in
    placed-in _ _ _ c.args.chunk _ c.args.mode c.pin_settled.result none c.in-Ok.ensures.grown log c.pin_settled.ensures.through pin.upto
