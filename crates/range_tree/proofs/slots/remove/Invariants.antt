use Rattle.std.proofs.Common.{◌≡◌, ◌≤◌, ◌++◌, filter, length, take, drop}
use Rattle.range_tree.specs.Trees.{is_elsewhere}
use Rattle.range_tree.proofs.slots.remove.Given as goal

abbrev pub invariant-loop-i : goal.invariant-loop-i
invariant-loop-i l = record {
  few : l.kept ≤ l.i;
  long : length l.spots.items ≡ length l.initial.spots.items;
  kept : take l.kept l.spots.items ++ filter (is_elsewhere l.range) (drop l.i l.initial.spots.items) ≡ filter (is_elsewhere l.range) l.initial.spots.items;
  left : drop l.i l.spots.items ≡ drop l.i l.initial.spots.items;
}
