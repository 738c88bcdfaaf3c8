use Rattle.std.proofs.Common.{◌∙◌, sym}
use Rattle.guest_dax.proofs.PinLaws.{pin-had-raw, PinsFound-some}
use Rattle.guest_dax.proofs.pins.pin_found.Goals as goal

pub pin-requires-clause-had : goal.pin-requires-clause-had
pin-requires-clause-had g c = pin-had-raw (g.R.MapBoard.map c.args.ranges.now) c.args.file c.args.chunk c.in-Some.placed c.requires.tree c.sound_ranges.ensures (sym c.find.ensures.placed ∙ c.in-Some.is)

pub returns-in-Some : goal.returns-in-Some
returns-in-Some g c =
    PinsFound-some (g.R.MapBoard.map c.args.ranges.now) c.args.file c.args.chunk c.args.mode c.in-Some.placed c.log_len-upto.result (g.R.MapBoard.map c.pin.new.self) c.requires.tree c.sound_ranges.ensures (sym c.find.ensures.placed ∙ c.in-Some.is) (c.in-Some.ensures {u = tt}).live c.requires.enough c.log_len-upto.ensures c.pin.ensures
