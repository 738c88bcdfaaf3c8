use Rattle.std.proofs.Common.{arith}
use Rattle.plain_file.specs.File.{reach}
use Rattle.guest_dax.specs.Stands.{stand}
use Rattle.guest_io.proofs.Reading.{Reads-through}
use Rattle.guest_io.proofs.guest.Guest.read.Goals as goal

pub through_window-requires-clause-fits : goal.through_window-requires-clause-fits
unfolding reach
through_window-requires-clause-fits g c = omega arith

pub returns-clause-reads : goal.returns-clause-reads
returns-clause-reads g c =
    let s = stand (g.W.Wire.wire c.args.self.now.dax.driver.wire) (g.F.FileBoard.board c.args.self.now.dax.files) (g.R.MapBoard.map c.args.self.now.dax.ranges) in
    let t = stand (g.W.Wire.wire c.through_window.new.self.dax.driver.wire) (g.F.FileBoard.board c.through_window.new.self.dax.files) (g.R.MapBoard.map c.through_window.new.self.dax.ranges) in
    Reads-through s t c.args.file c.args.call c.args.off c.args.len c.through_window.result (omega (arith, c.if-count-eq0.false, c.ranges-count.ensures.count)) c.through_window.ensures.goes
