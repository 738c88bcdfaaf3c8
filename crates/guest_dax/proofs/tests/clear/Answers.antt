use Rattle.std.proofs.Common.{arith}
use Rattle.std.proofs.lemmas.Grind.{common_steps}
use Rattle.page_map.specs.Board.{is_whole}
use Rattle.guest_dax.proofs.tests.clear.Goals as goal

pub clear-requires-clause-whole : goal.clear-requires-clause-whole
unfolding is_whole
clear-requires-clause-whole c = let n = c.ranges-count.ensures.pages in let below = c.if-range-count.false in grind (arith, common_steps, n, below)
