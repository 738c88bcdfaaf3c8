use Rattle.std.proofs.Common.{◌≡◌, ◌≤◌, ℕ, length, drop, unwrap_or}
use Rattle.std.specs.Ordering.{nat_cmp}
use Rattle.std.specs.BTreeMap as tree
use Rattle.range_tree.specs.Behind.{ends, next_from, behind}
use Rattle.range_tree.proofs.lives.places_behind.Given as goal

abbrev pub invariant-loop-at : goal.invariant-loop-at
invariant-loop-at l = record {
  within : l.at ≤ length l.log;
  many : length l.places.items ≡ length l.log;
  done : drop l.at l.places.items ≡ behind l.up l.at (drop l.at l.log);
  known : (q : ℕ) → unwrap_or (tree.get nat_cmp l.next q) (length l.log) ≡ next_from (ends l.up q) l.at (drop l.at l.log);
}

abbrev pub decreases-loop-at : goal.decreases-loop-at
decreases-loop-at l = l.at
