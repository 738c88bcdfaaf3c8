use Rattle.std.proofs.Common.{subst}
use Rattle.std.specs.Slots.{slots_items}
use Rattle.atomic_table.specs.Seated.{TableId}
use Rattle.range_share.specs.Known.{Known, AsSeen}
use Rattle.range_share.proofs.table.RangeTable.close.Goals as goal

pub returns-clause-seen : goal.returns-clause-seen
returns-clause-seen c = subst (λ (z : TableId × Known). AsSeen z.0.slots z.1.view (slots_items c.close.result.slots)) (λ i. (c.self.view_is i, c.pass.view_is i)) c.close.ensures.trees
