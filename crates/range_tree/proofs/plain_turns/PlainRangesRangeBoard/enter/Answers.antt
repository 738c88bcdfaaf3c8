use Rattle.std.proofs.Common.{◌<◌, Some, length, subst}
use Rattle.page_map.specs.Board.{MapView}
use Rattle.range_tree.specs.Ranges.{Enters}
use Rattle.range_tree.specs.Plain.{plain_view}
use Rattle.range_tree.proofs.OneGuest.{parts_of, inv-tree}
use Rattle.range_tree.proofs.Seeing.{enters}
use Rattle.range_tree.proofs.plain_turns.PlainRangesRangeBoard.enter.Goals as goal

pub invariant_of-self : goal.invariant_of-self
invariant_of-self g c =
    let p = parts_of c.self.inside in
    let h : c.args.file < length p.logs = rw (← c.self.view_is) at c.requires.file in
    inv-tree {s = p} (Some c.args.file) c.self.invariant h

pub returns : goal.returns
returns g c =
    let p = parts_of c.self.inside in
    subst (λ (v : MapView). Enters v c.args.file (plain_view (record p { tree = Some c.args.file }))) c.self.view_is (enters p c.args.file)
