use Rattle.std.proofs.Common.{arith}
use Rattle.range_tree.proofs.OneGuest.{parts_of}
use Rattle.range_tree.proofs.Pages.{length-table}
use Rattle.range_tree.proofs.plain.PlainRangesMapBoard.pages.Goals as goal

pub returns : goal.returns
returns c =
    let p = parts_of c.self.inside in
    rw (← c.self.view_is) (let t = length-table p.maps in let few = c.self.invariant.few in let long = c.self.invariant.maps in omega (arith, t, few, long))
