use Rattle.std.proofs.Common.{sym, subst}
use Rattle.range_share.specs.Table.{IsIdle}
use Rattle.range_share.specs.Known.{Known}
use Rattle.range_share.proofs.TestTurns.{child_idle, idle_has}
use Rattle.range_share.proofs.tests.seated.Goals as goal

pub invariant_of-result : goal.invariant_of-result
invariant_of-result c = record {
  has = idle_has c.split.result c.new.result.pass c.new.ensures.pass (subst (λ (k : Known). IsIdle k.view.mine) (sym c.split.ensures.given) (child_idle c.args.first.now c.args.number));
}
