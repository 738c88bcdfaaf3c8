use Rattle.std.proofs.Common.{arith}
use Rattle.std.proofs.lemmas.Grind.{common_steps}
use Rattle.page_map.specs.Board.{is_whole}
use Rattle.guest_dax.proofs.tests.set.Goals as goal

pub set-requires-clause-whole : goal.set-requires-clause-whole
unfolding is_whole
set-requires-clause-whole c = let n = c.ranges-count.ensures.pages in let below = c.if-range-count.false in grind (arith, common_steps, n, below)
