use Rattle.std.proofs.Common.{◌∙◌, sym}
use Rattle.guest_dax.proofs.PinLaws.{pin-had-raw, PinsFound-some}
use Rattle.guest_dax.proofs.Upgrading.{found-at, some-found}
use Rattle.guest_dax.proofs.pins.pin_settled.Goals as goal

pub unwrap-placed-requires : goal.unwrap-placed-requires
unwrap-placed-requires g c = some-found (g.R.MapBoard.map c.args.ranges.now) c.args.file c.args.chunk c.find.result c.requires.tree c.find.ensures.placed c.requires.placed

pub pin-requires-clause-had : goal.pin-requires-clause-had
pin-requires-clause-had g c = pin-had-raw (g.R.MapBoard.map c.args.ranges.now) c.args.file c.args.chunk c.unwrap-placed.result c.requires.tree c.sound_ranges.ensures (sym c.find.ensures.placed ∙ c.unwrap-placed.ensures)

pub returns-clause-pins : goal.returns-clause-pins
returns-clause-pins g c =
    PinsFound-some (g.R.MapBoard.map c.args.ranges.now) c.args.file c.args.chunk c.args.mode c.unwrap-placed.result c.log_len-upto.result (g.R.MapBoard.map c.pin.new.self) c.requires.tree c.sound_ranges.ensures (sym c.find.ensures.placed ∙ c.unwrap-placed.ensures) (rw c.unwrap-placed.ensures at c.find.ensures.live) c.requires.enough c.log_len-upto.ensures c.pin.ensures

pub returns-clause-through : goal.returns-clause-through
returns-clause-through g c = record {
  mode = c.unwrap-placed.result.mode;
  placed = sym (found-at (g.R.MapBoard.map c.args.ranges.now) c.args.file c.args.chunk c.find.result c.requires.tree c.find.ensures.placed) ∙ c.unwrap-placed.ensures;
}
