use Rattle.std.proofs.Common.{arith}
use Rattle.std.proofs.lemmas.Grind.{common_steps}
use Rattle.page_map.specs.Board.{is_whole}
use Rattle.range_share.proofs.tests.map.Goals as goal

pub set-requires-clause-whole : goal.set-requires-clause-whole
unfolding is_whole
set-requires-clause-whole g c = let n = c.ranges-count.ensures.pages in grind (arith, common_steps, n)
