use Rattle.std.proofs.Common.{◌≡◌, drop}
use Rattle.range_tree.specs.Logs.{first_unsound, unsound_at}
use Rattle.range_tree.specs.Trees.{slots_in}
use Rattle.range_tree.proofs.unsound.first_unsound.Given as goal

abbrev pub invariant-loop-entry : goal.invariant-loop-entry
invariant-loop-entry l = (l.n ≡ l.entry-index) × (first_unsound l.ranges l.entry-index (slots_in l.spots.items) (drop l.entry-index l.log) ≡ unsound_at l.ranges l.log)
