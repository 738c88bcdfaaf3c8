use Rattle.std.proofs.Common.{arith}
use Rattle.guest_dax.specs.Stands.{stand}
use Rattle.guest_dax.proofs.Walking.{Keeps-map, Keeps-both}
use Rattle.guest_dax.proofs.Counting.{turned-on}
use Rattle.guest_dax.proofs.dax.Dax.background_turn.Goals as goal

pub returns-clause-keeps : goal.returns-clause-keeps
returns-clause-keeps g c =
    let s = stand (g.W.Wire.wire c.args.self.now.driver.wire) (g.F.FileBoard.board c.args.self.now.files) (g.R.MapBoard.map c.args.self.now.ranges) in
    let t = stand (g.W.Wire.wire c.args.self.now.driver.wire) (g.F.FileBoard.board c.args.self.now.files) (g.R.MapBoard.map c.sweep-free.new.ranges) in
    Keeps-both s t _ (Keeps-map s t.map c.sweep-free.ensures.sweeps.keeps) c.free_one.ensures.keeps

pub returns-clause-turns : goal.returns-clause-turns
returns-clause-turns g c =
    let s = stand (g.W.Wire.wire c.args.self.now.driver.wire) (g.F.FileBoard.board c.args.self.now.files) (g.R.MapBoard.map c.args.self.now.ranges) in
    let t = stand (g.W.Wire.wire c.args.self.now.driver.wire) (g.F.FileBoard.board c.args.self.now.files) (g.R.MapBoard.map c.sweep-free.new.ranges) in
    let u = stand (g.W.Wire.wire c.free_one.new.self.driver.wire) (g.F.FileBoard.board c.free_one.new.self.files) (g.R.MapBoard.map c.free_one.new.self.ranges) in
    turned-on s t u c.sweep-free.result c.free_one.result c.sweep-free.ensures.sweeps (Keeps-map s t.map c.sweep-free.ensures.sweeps.keeps) (omega (arith, c.if-free-count.false, c.ranges-count.ensures.count, c.sweep-free.ensures.sweeps.keeps.count)) c.free_one.ensures.frees
