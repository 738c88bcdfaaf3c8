use Rattle.std.proofs.Common.{◌≡◌, ◌∙◌, ◌<◌, None, length, get_or, arith}
use Rattle.std.proofs.lemmas.List.{length-set}
use Rattle.range_tree.proofs.OneGuest.{parts_of, inv-targets}
use Rattle.range_tree.proofs.Seeing.{get_or-any}
use Rattle.range_tree.proofs.Pages.{targets-map}
use Rattle.range_tree.proofs.plain_turns.PlainRangesRangeBoard.target.Goals as goal

pub invariant_of-self : goal.invariant_of-self
invariant_of-self c = inv-targets _ _ c.self.invariant (length-set _ _ _ ∙ c.self.invariant.targets)

pub returns : goal.returns
returns c =
    let p = parts_of c.self.inside in
    let within : c.args.range < length p.pins = rw (← c.self.view_is) at c.requires in
    let long : length p.maps ≡ length p.pins = c.self.invariant.maps in
    let t : c.index-target.result.now ≡ get_or p.maps c.args.range None = c.index-target.ensures ∙ get_or-any p.maps c.args.range _ _ (omega (arith, within, long)) in
    rw (← c.self.view_is) (rw (t, c.saturating_add-self-inside.ensures) (targets-map p c.args.range c.self.invariant within))
