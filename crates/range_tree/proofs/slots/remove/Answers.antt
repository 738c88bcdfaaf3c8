use Rattle.std.proofs.Common.{◌∙◌, ap, sym, ◌++◌, List, take, filter, arith}
use Rattle.std.proofs.lemmas.List.{append-nil}
use Rattle.std.proofs.Math.ListN.{drop_of_length-le}
use Rattle.range_tree.specs.declared.slots.Spot.{Spot}
use Rattle.range_tree.specs.Trees.{slots_in, is_elsewhere}
use Rattle.range_tree.proofs.Agreeing.{slots_left}
use Rattle.range_tree.proofs.slots.remove.Goals as goal

pub returns-clause-slots : goal.returns-clause-slots
returns-clause-slots c = let front = take c.loop-i.kept c.loop-i.spots.items in
    let none = drop_of_length-le c.args.spots.now.items {i = c.loop-i.i} (omega arith) in
    let left = ap (λ (xs : List Spot). front ++ filter (is_elsewhere c.args.range) xs) none in
    ap slots_in (c.truncate.ensures.items ∙ (sym (append-nil front) ∙ (sym left ∙ c.loop-i.invariant.kept))) ∙ slots_left c.args.range c.args.spots.now.items
