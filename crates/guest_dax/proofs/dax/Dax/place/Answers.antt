use Rattle.guest_dax.specs.Stands.{stand}
use Rattle.guest_dax.proofs.Keeping.{KeepsMap-enter, KeepsMap-leave}
use Rattle.guest_dax.proofs.Walking.{Keeps-both, Keeps-map}
use Rattle.std.proofs.Common.{arith}
use Rattle.guest_dax.proofs.Upgrading.{placed-moved}
use Rattle.guest_dax.proofs.dax.Dax.place.Goals as goal

pub returns-clause-keeps : goal.returns-clause-keeps
returns-clause-keeps g c =
    let s = stand (g.W.Wire.wire c.args.self.now.driver.wire) (g.F.FileBoard.board c.args.self.now.files) (g.R.MapBoard.map c.args.self.now.ranges) in
    let t = stand (g.W.Wire.wire c.args.self.now.driver.wire) (g.F.FileBoard.board c.args.self.now.files) (g.R.MapBoard.map c.enter.new.self) in
    let u = stand (g.W.Wire.wire c.place_in-pinned.new.self.driver.wire) (g.F.FileBoard.board c.place_in-pinned.new.self.files) (g.R.MapBoard.map c.place_in-pinned.new.self.ranges) in
    Keeps-both s t _ (Keeps-map s t.map (KeepsMap-enter s.map c.args.file t.map c.enter.ensures)) (Keeps-both t u _ c.place_in-pinned.ensures.keeps (Keeps-map u _ (KeepsMap-leave u.map _ c.leave.ensures)))

pub returns-clause-placed : goal.returns-clause-placed
returns-clause-placed g c =
    placed-moved (g.R.MapBoard.map c.args.self.now.ranges) (g.R.MapBoard.map c.enter.new.self) (g.R.MapBoard.map c.place_in-pinned.new.self.ranges) _ c.args.file c.args.chunk c.args.mode c.place_in-pinned.result c.enter.ensures (omega (arith, c.requires.file, c.requires.stands.refs_of, c.requires.stands.logs)) c.place_in-pinned.ensures.keeps.map c.leave.ensures c.place_in-pinned.ensures.placed
