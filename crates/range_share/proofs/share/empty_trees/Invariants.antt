use Rattle.std.proofs.Common.{◌≡◌, [], replicate, Some}
use Rattle.range_share.proofs.share.empty_trees.Given as goal

abbrev pub invariant-loop-file : goal.invariant-loop-file
invariant-loop-file l = l.trees.items ≡ replicate l._file (Some [])
