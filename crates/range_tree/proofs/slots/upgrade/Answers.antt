use Rattle.std.proofs.Common.{◌∙◌, ap, set, arith}
use Rattle.std.proofs.lemmas.Grind.{common_steps}
use Rattle.range_tree.specs.declared.slots.Spot.{Spot}
use Rattle.range_tree.specs.Trees.{slots_in, raised}
use Rattle.range_tree.proofs.Growing.{set-mapped}
use Rattle.range_tree.proofs.Agreeing.{slots_raised}
use Rattle.range_tree.proofs.slots.upgrade.Goals as goal

pub loop-i-preserved : goal.loop-i-preserved
loop-i-preserved c = ap (λ (x : Spot). set c.loop-i.spots.items c.loop-i.i x) c.raised.ensures
    ∙ set-mapped (raised c.args.range) c.args.spots.now.items c.loop-i.spots.items c.loop-i.i c.index.result.now (omega arith) c.loop-i.invariant c.index.ensures

pub returns-clause-slots : goal.returns-clause-slots
returns-clause-slots c = ap slots_in (grind (arith, common_steps)) ∙ slots_raised c.args.range c.args.spots.now.items
