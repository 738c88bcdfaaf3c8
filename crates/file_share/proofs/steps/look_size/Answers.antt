use Rattle.std.proofs.Common.{rules, refl}
use Rattle.file_share.proofs.Stepping.{notes}
use Rattle.file_share.proofs.steps.look_size.Goals as goal

pub load-requires : goal.load-requires
load-requires c = let a = c.requires.at in (a.same, search rules, notes _ _ _ _ a.live a.inside)

pub returns-clause-deed : goal.returns-clause-deed
returns-clause-deed c = c.load.ensures.2 c.args.file refl
