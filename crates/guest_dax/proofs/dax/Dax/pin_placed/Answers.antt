use Rattle.std.proofs.Common.{◌∙◌}
use Rattle.guest_dax.specs.Stands.{stand}
use Rattle.guest_dax.proofs.Walking.{Keeps-both, Keeps-map}
use Rattle.guest_dax.proofs.PinLaws.{PinsFound-keeps, PinsFound-logs}
use Rattle.guest_dax.proofs.dax.Dax.pin_placed.Goals as goal

pub returns-clause-keeps : goal.returns-clause-keeps
returns-clause-keeps g c =
    let s = stand (g.W.Wire.wire c.args.self.now.driver.wire) (g.F.FileBoard.board c.args.self.now.files) (g.R.MapBoard.map c.args.self.now.ranges) in
    let t = stand (g.W.Wire.wire c.make_enough.new.self.driver.wire) (g.F.FileBoard.board c.make_enough.new.self.files) (g.R.MapBoard.map c.make_enough.new.self.ranges) in
    Keeps-both s t _ c.make_enough.ensures.keeps (Keeps-map t _ (PinsFound-keeps t.map c.args.file c.args.chunk c.args.mode c.pin_found.result _ c.pin_found.ensures))

pub returns-clause-still : goal.returns-clause-still
returns-clause-still g c enough =
    PinsFound-logs (g.R.MapBoard.map c.make_enough.new.self.ranges) c.args.file c.args.chunk c.args.mode c.pin_found.result _ c.pin_found.ensures ∙ c.make_enough.ensures.still enough
