use Rattle.std.proofs.Common.{◌∙◌, ap}
use Rattle.page_map.specs.Board.{MapView}
use Rattle.guest_dax.specs.Stands.{stand}
use Rattle.guest_dax.proofs.Keeping.{KeepsMap-enter, KeepsMap-leave}
use Rattle.guest_dax.proofs.Walking.{Keeps-both, Keeps-map}
use Rattle.guest_dax.proofs.Upgrading.{enter-alone, enter-logs}
use Rattle.guest_dax.proofs.dax.Dax.pin_chunk.Goals as goal

pub returns-clause-keeps : goal.returns-clause-keeps
returns-clause-keeps g c =
    let s = stand (g.W.Wire.wire c.args.self.now.driver.wire) (g.F.FileBoard.board c.args.self.now.files) (g.R.MapBoard.map c.args.self.now.ranges) in
    let t = stand (g.W.Wire.wire c.args.self.now.driver.wire) (g.F.FileBoard.board c.args.self.now.files) (g.R.MapBoard.map c.enter.new.self) in
    let u = stand (g.W.Wire.wire c.pin_placed-pinned.new.self.driver.wire) (g.F.FileBoard.board c.pin_placed-pinned.new.self.files) (g.R.MapBoard.map c.pin_placed-pinned.new.self.ranges) in
    Keeps-both s t _ (Keeps-map s t.map (KeepsMap-enter s.map c.args.file t.map c.enter.ensures)) (Keeps-both t u _ c.pin_placed-pinned.ensures.keeps (Keeps-map u _ (KeepsMap-leave u.map _ c.leave.ensures)))

pub returns-clause-quiet : goal.returns-clause-quiet
returns-clause-quiet g c others enough =
    c.pin_placed-pinned.ensures.quiet (enter-alone (g.R.MapBoard.map c.args.self.now.ranges) c.args.file c.args.chunk c.args.mode _ c.enter.ensures others enough)

pub returns-clause-still : goal.returns-clause-still
returns-clause-still g c others enough =
    let s = g.R.MapBoard.map c.args.self.now.ranges in
    let t = g.R.MapBoard.map c.enter.new.self in
    ap (λ (m : MapView). m.ranges.logs) c.leave.ensures.rest ∙ c.pin_placed-pinned.ensures.still (enter-alone s c.args.file c.args.chunk c.args.mode t c.enter.ensures others enough) ∙ enter-logs s c.args.file t c.enter.ensures others
