use Rattle.std.proofs.Common.{arith}
use Rattle.range_tree.proofs.Agreeing.{agrees_new}
use Rattle.range_tree.proofs.trees.Tree.new.Goals as goal

pub invariant_of-result : goal.invariant_of-result
invariant_of-result c = (rw (c.new.ensures.items, c.new-2.ensures.items) agrees_new, rw c.new.ensures.items (omega arith))
