use Rattle.std.proofs.Common.{subst}
use Rattle.range_tree.specs.Ranges.{IsSoundRanges}
use Rattle.range_tree.proofs.OneGuest.{parts_of}
use Rattle.range_tree.proofs.Whole.{sound-whole}
use Rattle.range_tree.proofs.plain_turns.PlainRangesRangeBoard.sound_ranges.Goals as goal

pub returns : goal.returns
returns c = subst IsSoundRanges c.self.view_is (sound-whole (parts_of c.self.inside) c.self.invariant)
