use Rattle.std.proofs.Common.{None}
use Rattle.range_tree.proofs.OneGuest.{parts_of, inv-tree}
use Rattle.range_tree.proofs.plain_turns.PlainRangesRangeBoard.leave.Goals as goal

pub invariant_of-self : goal.invariant_of-self
invariant_of-self c = inv-tree {s = parts_of c.self.inside} None c.self.invariant tt
