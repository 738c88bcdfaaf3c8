use Rattle.std.proofs.Common.{refl}
use Rattle.guest_dax.specs.Stands.{stand}
use Rattle.guest_io.proofs.Passing.{GoesThrough-ok, GoesThrough-refused, LeavesAll-through}
use Rattle.guest_io.proofs.Counting.{KeepsRefusals-both, KeepsRefusals-stay}
use Rattle.guest_io.proofs.guest.Guest.through_window.Goals as goal

pub returns-in-Ok-go_through-clause-leaves : goal.returns-in-Ok-go_through-clause-leaves
returns-in-Ok-go_through-clause-leaves g c =
    let s = stand (g.W.Wire.wire c.args.self.now.dax.driver.wire) (g.F.FileBoard.board c.args.self.now.dax.files) (g.R.MapBoard.map c.args.self.now.dax.ranges) in
    let t = stand (g.W.Wire.wire c.get_chunks.new.self.dax.driver.wire) (g.F.FileBoard.board c.get_chunks.new.self.dax.files) (g.R.MapBoard.map c.get_chunks.new.self.dax.ranges) in
    let u = stand (g.W.Wire.wire c.go_through.new.self.dax.driver.wire) (g.F.FileBoard.board c.go_through.new.self.dax.files) (g.R.MapBoard.map c.go_through.new.self.dax.ranges) in
    LeavesAll-through s t u c.in-Ok.pins.first c.in-Ok.pins.second c.requires.moves c.get_chunks.ensures.keeps (c.in-Ok.ensures {u = tt}).gets.0 c.go_through.ensures.back (rw c.go_through.ensures.driver refl) c.go_through.ensures.stays

pub returns-in-Err-go_through-clause-leaves : goal.returns-in-Err-go_through-clause-leaves
returns-in-Err-go_through-clause-leaves g c =
    let s = stand (g.W.Wire.wire c.args.self.now.dax.driver.wire) (g.F.FileBoard.board c.args.self.now.dax.files) (g.R.MapBoard.map c.args.self.now.dax.ranges) in
    let t = stand (g.W.Wire.wire c.get_chunks.new.self.dax.driver.wire) (g.F.FileBoard.board c.get_chunks.new.self.dax.files) (g.R.MapBoard.map c.get_chunks.new.self.dax.ranges) in
    let u = stand (g.W.Wire.wire c.go_through.new.self.dax.driver.wire) (g.F.FileBoard.board c.go_through.new.self.dax.files) (g.R.MapBoard.map c.go_through.new.self.dax.ranges) in
    LeavesAll-through s t u c.in-Ok.pins.first c.in-Ok.pins.second c.requires.moves c.get_chunks.ensures.keeps (c.in-Ok.ensures {u = tt}).gets.0 c.go_through.ensures.back (rw c.go_through.ensures.driver refl) c.go_through.ensures.stays

pub returns-in-Ok-go_through-clause-goes : goal.returns-in-Ok-go_through-clause-goes
returns-in-Ok-go_through-clause-goes g c =
    let s = stand (g.W.Wire.wire c.args.self.now.dax.driver.wire) (g.F.FileBoard.board c.args.self.now.dax.files) (g.R.MapBoard.map c.args.self.now.dax.ranges) in
    let t = stand (g.W.Wire.wire c.get_chunks.new.self.dax.driver.wire) (g.F.FileBoard.board c.get_chunks.new.self.dax.files) (g.R.MapBoard.map c.get_chunks.new.self.dax.ranges) in
    let u = stand (g.W.Wire.wire c.go_through.new.self.dax.driver.wire) (g.F.FileBoard.board c.go_through.new.self.dax.files) (g.R.MapBoard.map c.go_through.new.self.dax.ranges) in
    GoesThrough-ok s t u c.args.file c.args.call c.args.op c.args.off c.args.len c.args.mode c.in-Ok.pins c.in-Ok-go_through.done c.requires.moves c.get_chunks.ensures.keeps (c.in-Ok.ensures {u = tt}).gets c.go_through.ensures.back (c.in-Ok-go_through.ensures {u = tt}).applied

pub returns-in-Err-clause-goes : goal.returns-in-Err-clause-goes
returns-in-Err-clause-goes g c =
    let s = stand (g.W.Wire.wire c.args.self.now.dax.driver.wire) (g.F.FileBoard.board c.args.self.now.dax.files) (g.R.MapBoard.map c.args.self.now.dax.ranges) in
    let t = stand (g.W.Wire.wire c.get_chunks.new.self.dax.driver.wire) (g.F.FileBoard.board c.get_chunks.new.self.dax.files) (g.R.MapBoard.map c.get_chunks.new.self.dax.ranges) in
    GoesThrough-refused s t c.args.file c.args.call c.args.op c.args.off c.args.len c.args.mode c.in-Err.refusal c.refusal_of_dax.result c.get_chunks.ensures.keeps c.in-Err.ensures.gets c.refusal_of_dax.ensures

pub returns-in-Ok-go_through-clause-refusals : goal.returns-in-Ok-go_through-clause-refusals
returns-in-Ok-go_through-clause-refusals g c =
    let v = g.F.FileBoard.board c.args.self.now.dax.files in
    let w = g.F.FileBoard.board c.get_chunks.new.self.dax.files in
    KeepsRefusals-both v w (g.F.FileBoard.board c.go_through.new.self.dax.files) (KeepsRefusals-stay v w c.get_chunks.ensures.keeps.files) c.go_through.ensures.refusals

pub returns-in-Err-go_through-clause-refusals : goal.returns-in-Err-go_through-clause-refusals
returns-in-Err-go_through-clause-refusals g c =
    let v = g.F.FileBoard.board c.args.self.now.dax.files in
    let w = g.F.FileBoard.board c.get_chunks.new.self.dax.files in
    KeepsRefusals-both v w (g.F.FileBoard.board c.go_through.new.self.dax.files) (KeepsRefusals-stay v w c.get_chunks.ensures.keeps.files) c.go_through.ensures.refusals

pub returns-in-Err-clause-refusals : goal.returns-in-Err-clause-refusals
returns-in-Err-clause-refusals g c = KeepsRefusals-stay (g.F.FileBoard.board c.args.self.now.dax.files) (g.F.FileBoard.board c.get_chunks.new.self.dax.files) c.get_chunks.ensures.keeps.files
