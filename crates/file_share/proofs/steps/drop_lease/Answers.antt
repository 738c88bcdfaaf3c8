use Rattle.std.proofs.Common.{rules, refl}
use Rattle.file_share.proofs.Leasing.{gives_lease}
use Rattle.file_share.proofs.steps.drop_lease.Goals as goal

pub fetch_sub-requires : goal.fetch_sub-requires
fetch_sub-requires c = let a = c.requires.at in (a.same, search rules, gives_lease _ _ _ _ a.live a.inside c.requires.had)

pub returns-clause-deed : goal.returns-clause-deed
returns-clause-deed c = c.fetch_sub.ensures.2 c.args.file refl
