use Rattle.std.proofs.Common.{◌∙◌, sym, subst, Ok}
use Rattle.guest_dax.specs.Stands.{stand}
use Rattle.guest_io.specs.Chunks.{Gets}
use Rattle.guest_io.proofs.Passing.{two-chunks, GetsAll-second, Keeps-second}
use Rattle.guest_io.proofs.guest.Guest.get_chunks.Goals as goal

pub returns-else-last-chunk-clause-keeps : goal.returns-else-last-chunk-clause-keeps
returns-else-last-chunk-clause-keeps g c =
    let s = stand (g.W.Wire.wire c.args.self.now.dax.driver.wire) (g.F.FileBoard.board c.args.self.now.dax.files) (g.R.MapBoard.map c.args.self.now.dax.ranges) in
    let t = stand (g.W.Wire.wire c.get_chunk.new.self.dax.driver.wire) (g.F.FileBoard.board c.get_chunk.new.self.dax.files) (g.R.MapBoard.map c.get_chunk.new.self.dax.ranges) in
    let u = stand (g.W.Wire.wire c.get_second.new.self.dax.driver.wire) (g.F.FileBoard.board c.get_second.new.self.dax.files) (g.R.MapBoard.map c.get_second.new.self.dax.ranges) in
    Keeps-second s t u c.args.file c.chunk_at-last.result c.args.mode c.in-Ok.first c.get_second.result c.requires.moves c.get_chunk.ensures.keeps (c.in-Ok.ensures {u = tt}).gets.0 c.get_second.ensures.gets

pub returns-else-last-chunk-clause-gets : goal.returns-else-last-chunk-clause-gets
returns-else-last-chunk-clause-gets g c =
    let s = stand (g.W.Wire.wire c.args.self.now.dax.driver.wire) (g.F.FileBoard.board c.args.self.now.dax.files) (g.R.MapBoard.map c.args.self.now.dax.ranges) in
    let t = stand (g.W.Wire.wire c.get_chunk.new.self.dax.driver.wire) (g.F.FileBoard.board c.get_chunk.new.self.dax.files) (g.R.MapBoard.map c.get_chunk.new.self.dax.ranges) in
    let u = stand (g.W.Wire.wire c.get_second.new.self.dax.driver.wire) (g.F.FileBoard.board c.get_second.new.self.dax.files) (g.R.MapBoard.map c.get_second.new.self.dax.ranges) in
    let two = two-chunks c.args.off c.args.len c.requires.some c.requires.most (λ e. c.if-last-chunk.false (c.chunk_at-last.ensures.is ∙ e ∙ sym c.chunk_at-chunk.ensures.is)) in
    let first = subst (λ n. Gets s c.args.file n c.args.mode (Ok c.in-Ok.first) t) c.chunk_at-chunk.ensures.is (c.in-Ok.ensures {u = tt}).gets in
    GetsAll-second s t u c.args.file c.args.off c.args.len c.chunk_at-last.result c.args.mode c.in-Ok.first c.get_second.result c.requires.ranges (c.chunk_at-last.ensures.is ∙ two) two c.requires.moves c.get_chunk.ensures.keeps first c.get_second.ensures.gets
