use Rattle.std.proofs.Common.{rules, refl}
use Rattle.file_share.proofs.Leasing.{takes_bar}
use Rattle.file_share.proofs.steps.try_bar.Goals as goal

pub compare_exchange-found-requires : goal.compare_exchange-found-requires
compare_exchange-found-requires c = let a = c.requires.at in (a.same, search rules, takes_bar _ _ _ _ a.live a.inside c.args.guest c.requires.guest c.requires.free)

pub returns-then-found-eq0-clause-tried : goal.returns-then-found-eq0-clause-tried
returns-then-found-eq0-clause-tried c = (c.compare_exchange-found.ensures.2 c.args.file refl).0 c.if-found-eq0.true

pub returns-then-count-eq0-clause-tried : goal.returns-then-count-eq0-clause-tried
returns-then-count-eq0-clause-tried c = (c.compare_exchange-found.ensures.2 c.args.file refl).2 c.if-found-eq0.false c.if-count-eq0.true
