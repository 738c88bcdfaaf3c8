use Rattle.std.proofs.Common.{◌≡◌, ◌++◌, map, take, drop}
use Rattle.range_tree.specs.Trees.{raised}
use Rattle.range_tree.proofs.slots.upgrade.Given as goal

abbrev pub invariant-loop-i : goal.invariant-loop-i
invariant-loop-i l = l.spots.items ≡ map (raised l.range) (take l.i l.initial.spots.items) ++ drop l.i l.initial.spots.items
