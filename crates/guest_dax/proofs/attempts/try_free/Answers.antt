use Rattle.std.proofs.Common.{arith}
use Rattle.guest_dax.proofs.Searching.{Attempted-after, Attempted-refused, Searches-look, hands-look, free-unblocked}
use Rattle.guest_dax.proofs.attempts.try_free.Goals as goal

pub take_seen-requires-clause-seen : goal.take_seen-requires-clause-seen
take_seen-requires-clause-seen g c = free-unblocked _ c.args.range _ (omega (arith, c.requires.range, c.sound_ranges.ensures.looks)) (c.in-Free.ensures {u = tt})

pub returns-in-Free-clause-attempted : goal.returns-in-Free-clause-attempted
returns-in-Free-clause-attempted g c =
    let l = c.look.ensures in
    Attempted-after _ _ c.args.range c.take_seen.result _ (Searches-look _ c.args.range c.look.result _ l) (hands-look _ c.args.range c.look.result _ l) c.take_seen.ensures.attempted

pub returns-in_default-clause-attempted : goal.returns-in_default-clause-attempted
returns-in_default-clause-attempted g c =
    Attempted-refused _ c.args.range c.look.result c.refused.result _ (omega (arith, c.requires.range, c.sound_ranges.ensures.looks)) c.requires.moves c.look.ensures c.refused.ensures.blocked c.refused.ensures.again
