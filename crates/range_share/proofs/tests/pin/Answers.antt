use Rattle.std.proofs.Common.{◌∙◌, sym}
use Rattle.range_tree.proofs.InTree.{found-some}
use Rattle.range_share.proofs.tests.pin.Goals as goal

pub pin-requires-clause-had : goal.pin-requires-clause-had
pin-requires-clause-had g c = found-some _ c.args.file c.args.chunk c.in-Some.placed c.sound_ranges.ensures c.requires.tree (sym c.find.ensures.placed ∙ c.in-Some.is)
