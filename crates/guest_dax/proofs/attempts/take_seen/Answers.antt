use Rattle.std.proofs.Common.{arith}
use Rattle.guest_dax.proofs.Searching.{Attempted-took, Attempted-refused, taken-ok, refused-err}
use Rattle.guest_dax.proofs.attempts.take_seen.Goals as goal

pub returns-in-Ok-clause-attempted : goal.returns-in-Ok-clause-attempted
returns-in-Ok-clause-attempted g c = Attempted-took _ c.args.range _ (taken-ok _ c.args.range tt _ c.in-Ok.ensures) c.requires.seen

pub returns-in-Err-clause-attempted : goal.returns-in-Err-clause-attempted
returns-in-Err-clause-attempted g c =
    let looks = (refused-err _ c.args.range c.in-Err.word _ c.in-Err.ensures).looks in
    Attempted-refused _ c.args.range c.in-Err.word c.refused.result _ (omega (arith, c.requires.range, c.requires.looks)) c.requires.moves looks c.refused.ensures.blocked c.refused.ensures.again
