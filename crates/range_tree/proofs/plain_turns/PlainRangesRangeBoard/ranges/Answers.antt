use Rattle.std.proofs.Common.{◌≡◌, ◌∙◌, length, arith}
use Rattle.range_tree.proofs.OneGuest.{parts_of}
use Rattle.range_tree.proofs.Pages.{length-table}
use Rattle.range_tree.proofs.plain_turns.PlainRangesRangeBoard.ranges.Goals as goal

pub returns-clause-pages : goal.returns-clause-pages
returns-clause-pages c =
    let p = parts_of c.self.inside in
    let long : length p.maps ≡ length p.pins = c.self.invariant.maps in
    rw (← c.self.view_is) (length-table p.maps ∙ (let few = c.self.invariant.few in omega arith))
