use Rattle.std.proofs.Common.{arith}
use Rattle.std.specs.Slots.{slots_counts}
use Rattle.range_share.proofs.Ending.{ends}
use Rattle.range_share.proofs.share.close.Goals as goal

pub returns-clause-trees : goal.returns-clause-trees
returns-clause-trees c f l = let k = (slots_counts c.close_with.result.slots).0 in let n = c.close_with.ensures.counts.1 in
    ends _ _ _ c.args.seat.me.0 c.requires.live.0 c.requires.live.1 c.requires.guest c.close_with.ensures.values.2 f (omega arith)
