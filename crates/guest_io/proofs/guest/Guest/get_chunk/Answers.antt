use Rattle.std.proofs.Common.{◌∙◌}
use Rattle.page_map.specs.Board.{log_at}
use Rattle.guest_dax.specs.Stands.{stand}
use Rattle.guest_dax.proofs.Walking.{Keeps-both}
use Rattle.guest_io.proofs.Getting.{Gets-refused, rounds-as, enough-placed-for, placed-still}
use Rattle.guest_io.proofs.guest.Guest.get_chunk.Goals as goal

pub returns-in-Ok-clause-keeps : goal.returns-in-Ok-clause-keeps
returns-in-Ok-clause-keeps g c = Keeps-both _ _ _ c.pin_chunk.ensures.keeps (Keeps-both _ _ _ c.acquire.ensures.keeps c.place.ensures.keeps)

pub returns-in-Err-acquire-clause-keeps : goal.returns-in-Err-acquire-clause-keeps
returns-in-Err-acquire-clause-keeps g c = Keeps-both _ _ _ c.pin_chunk.ensures.keeps c.acquire.ensures.keeps

pub returns-in-Err-acquire-clause-gets : goal.returns-in-Err-acquire-clause-gets
returns-in-Err-acquire-clause-gets g c =
    let s = stand (g.W.Wire.wire c.args.self.now.dax.driver.wire) (g.F.FileBoard.board c.args.self.now.dax.files) (g.R.MapBoard.map c.args.self.now.dax.ranges) in
    let t = stand (g.W.Wire.wire c.pin_chunk.new.self.driver.wire) (g.F.FileBoard.board c.pin_chunk.new.self.files) (g.R.MapBoard.map c.pin_chunk.new.self.ranges) in
    let u = stand (g.W.Wire.wire c.acquire.new.self.driver.wire) (g.F.FileBoard.board c.acquire.new.self.files) (g.R.MapBoard.map c.acquire.new.self.ranges) in
    let (h, none) = rw c.in-Ok-None.field-0-is at c.in-Ok-None.ensures.pins in
    Gets-refused s t u c.args.file c.args.chunk c.args.mode c.in-Err-acquire.refusal c.pin_chunk.ensures.keeps h none c.sound_ranges.ensures c.acquire.ensures.keeps c.in-Err-acquire.ensures.acquires

pub returns-in-Ok-clause-rounds : goal.returns-in-Ok-clause-rounds
returns-in-Ok-clause-rounds g c =
    let (range, within, hands, own, looks, rounds) = c.in-Ok.ensures.acquires in
    rounds-as (g.R.MapBoard.map c.args.self.now.dax.ranges) c.place.result _ (c.place.ensures.rounds ∙ rounds ∙ c.pin_chunk.ensures.rounds)

pub returns-in-Ok-Some-clause-quiet : goal.returns-in-Ok-Some-clause-quiet
returns-in-Ok-Some-clause-quiet g c others placed = c.pin_chunk.ensures.quiet others (enough-placed-for (log_at (g.R.MapBoard.map c.args.self.now.dax.ranges) c.args.file) c.args.chunk c.args.mode placed)

pub returns-in-Ok-Some-clause-still : goal.returns-in-Ok-Some-clause-still
returns-in-Ok-Some-clause-still g c others placed = c.pin_chunk.ensures.still others (enough-placed-for (log_at (g.R.MapBoard.map c.args.self.now.dax.ranges) c.args.file) c.args.chunk c.args.mode placed)

pub returns-in-Err-clause-quiet : goal.returns-in-Err-clause-quiet
returns-in-Err-clause-quiet g c others placed = c.pin_chunk.ensures.quiet others (enough-placed-for (log_at (g.R.MapBoard.map c.args.self.now.dax.ranges) c.args.file) c.args.chunk c.args.mode placed)

pub returns-in-Err-clause-still : goal.returns-in-Err-clause-still
returns-in-Err-clause-still g c others placed = c.pin_chunk.ensures.still others (enough-placed-for (log_at (g.R.MapBoard.map c.args.self.now.dax.ranges) c.args.file) c.args.chunk c.args.mode placed)

pub returns-in-Ok-clause-quiet : goal.returns-in-Ok-clause-quiet
returns-in-Ok-clause-quiet g c others placed =
    let v = g.R.MapBoard.map c.args.self.now.dax.ranges in
    let (h, none) = rw c.in-Ok-None.field-0-is at c.in-Ok-None.ensures.pins in
    absurd (placed-still v (g.R.MapBoard.map c.pin_chunk.new.self.ranges) c.args.file c.args.chunk c.args.mode (c.pin_chunk.ensures.still others (enough-placed-for (log_at v c.args.file) c.args.chunk c.args.mode placed)) placed none)

pub returns-in-Ok-clause-still : goal.returns-in-Ok-clause-still
returns-in-Ok-clause-still g c others placed =
    let v = g.R.MapBoard.map c.args.self.now.dax.ranges in
    let (h, none) = rw c.in-Ok-None.field-0-is at c.in-Ok-None.ensures.pins in
    absurd (placed-still v (g.R.MapBoard.map c.pin_chunk.new.self.ranges) c.args.file c.args.chunk c.args.mode (c.pin_chunk.ensures.still others (enough-placed-for (log_at v c.args.file) c.args.chunk c.args.mode placed)) placed none)

pub returns-in-Err-acquire-clause-quiet : goal.returns-in-Err-acquire-clause-quiet
returns-in-Err-acquire-clause-quiet g c others placed =
    let v = g.R.MapBoard.map c.args.self.now.dax.ranges in
    let (h, none) = rw c.in-Ok-None.field-0-is at c.in-Ok-None.ensures.pins in
    absurd (placed-still v (g.R.MapBoard.map c.pin_chunk.new.self.ranges) c.args.file c.args.chunk c.args.mode (c.pin_chunk.ensures.still others (enough-placed-for (log_at v c.args.file) c.args.chunk c.args.mode placed)) placed none)

pub returns-in-Err-acquire-clause-still : goal.returns-in-Err-acquire-clause-still
returns-in-Err-acquire-clause-still g c others placed =
    let v = g.R.MapBoard.map c.args.self.now.dax.ranges in
    let (h, none) = rw c.in-Ok-None.field-0-is at c.in-Ok-None.ensures.pins in
    absurd (placed-still v (g.R.MapBoard.map c.pin_chunk.new.self.ranges) c.args.file c.args.chunk c.args.mode (c.pin_chunk.ensures.still others (enough-placed-for (log_at v c.args.file) c.args.chunk c.args.mode placed)) placed none)
