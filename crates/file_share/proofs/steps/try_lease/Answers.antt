use Rattle.std.proofs.Common.{rules, refl}
use Rattle.file_share.proofs.Leasing.{takes_lease, by_test}
use Rattle.file_share.proofs.steps.try_lease.Goals as goal

pub compare_exchange-requires : goal.compare_exchange-requires
compare_exchange-requires c = let a = c.requires.at in (a.same, search rules, takes_lease _ _ _ _ a.live a.inside c.peek-seen.result c.if-seen-ge65536.false c.requires.may c.requires.few)

pub returns-clause-deed : goal.returns-clause-deed
returns-clause-deed c = let e = c.compare_exchange.ensures.2 c.args.file refl in by_test c.compare_exchange.result c.peek-seen.result _ _ e.0 e.1
