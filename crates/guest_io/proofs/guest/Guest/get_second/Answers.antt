use Rattle.std.proofs.Common.{ap, refl}
use Rattle.page_map.specs.Board.{MapView}
use Rattle.guest_io.specs.declared.pins.Pins.{Pins}
use Rattle.guest_dax.specs.declared.pins.Pinned.{Pinned}
use Rattle.guest_io.proofs.Passing.{rounds-given}
use Rattle.guest_io.proofs.guest.Guest.get_second.Goals as goal

pub returns-in-Ok-clause-gets : goal.returns-in-Ok-clause-gets
returns-in-Ok-clause-gets g c = (refl, c.get_chunk.ensures.keeps, (c.in-Ok.pinned, refl, (c.in-Ok.ensures {u = tt}).gets))

pub returns-in-Err-clause-gets : goal.returns-in-Err-clause-gets
returns-in-Err-clause-gets g c = (g.R.MapBoard.map c.get_chunk.new.self.dax.ranges, c.get_chunk.ensures.keeps, c.in-Err.ensures.gets, c.unpin.ensures)

pub returns-in-Err-clause-rounds : goal.returns-in-Err-clause-rounds
returns-in-Err-clause-rounds g c = rounds-given Pinned Pins (g.R.MapBoard.map c.args.self.now.dax.ranges) (g.R.MapBoard.map c.get_chunk.new.self.dax.ranges) _ c.in-Err.refusal (ap (λ (m : MapView). m.ranges.rounds) c.unpin.ensures) c.in-Err.ensures.rounds
