use Rattle.std.proofs.Common.{rules, refl}
use Rattle.file_share.proofs.Leasing.{gives_bar}
use Rattle.file_share.proofs.steps.drop_bar.Goals as goal

pub fetch_and-requires : goal.fetch_and-requires
fetch_and-requires c = let a = c.requires.at in (a.same, search rules, gives_bar _ _ _ _ a.live a.inside c.requires.had)

pub returns-clause-deed : goal.returns-clause-deed
returns-clause-deed c = c.fetch_and.ensures.2 c.args.file refl
