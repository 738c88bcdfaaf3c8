use Rattle.std.proofs.Common.{◌≡◌, drop}
use Rattle.std.specs.List.{find}
use Rattle.page_map.specs.Logs.{is_in}
use Rattle.range_tree.specs.Trees.{slots_in}
use Rattle.range_tree.proofs.slots.in_range.Given as goal

abbrev pub invariant-loop-spot : goal.invariant-loop-spot
invariant-loop-spot l = find (is_in l.range) (slots_in (drop l.spot-index l.spots)) ≡ find (is_in l.range) (slots_in l.spots)
