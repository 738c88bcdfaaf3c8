use Rattle.std.proofs.Common.{◌≡◌, ◌∙◌, ◌-◌, ◌<◌}
use Rattle.range_tree.specs.Plain.{pins_at}
use Rattle.range_tree.proofs.OneGuest.{parts_of}
use Rattle.range_tree.proofs.Seeing.{get_or-any}
use Rattle.range_tree.proofs.Whole.{within-pinned, inv-unpin}
use Rattle.range_tree.proofs.plain_turns.PlainRangesRangeBoard.unpin.Goals as goal

pub invariant_of-self : goal.invariant_of-self
invariant_of-self c =
    let p = parts_of c.self.inside in
    let had : 0 < pins_at p c.args.range = rw (← c.self.view_is) at c.requires in
    let within = within-pinned p c.args.range had in
    let count : c.index_mut.result.now ≡ pins_at p c.args.range = c.index_mut.ensures.value ∙ get_or-any p.pins c.args.range _ _ within in
    inv-unpin {s = p} c.args.range (c.index_mut.result.now - 1) c.self.invariant had
