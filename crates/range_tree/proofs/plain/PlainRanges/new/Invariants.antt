use Rattle.std.proofs.Common.{◌≡◌, replicate, []}
use Rattle.range_tree.proofs.plain.PlainRanges.new.Given as goal

abbrev pub invariant-loop : goal.invariant-loop
invariant-loop l = l.trees.items ≡ replicate l.counter []
