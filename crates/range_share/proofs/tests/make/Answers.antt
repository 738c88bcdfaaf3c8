use Rattle.std.proofs.Common.{arith}
use Rattle.std.proofs.lemmas.Grind.{common_steps}
use Rattle.page_map.specs.Board.{is_whole}
use Rattle.range_share.proofs.tests.make.Goals as goal

pub clear-requires-clause-whole : goal.clear-requires-clause-whole
unfolding is_whole
clear-requires-clause-whole g c = let n = c.ranges-count.ensures.pages in grind (arith, common_steps, n)
