use Rattle.std.proofs.Common.{◌≡◌, ◌∙◌, None, refl, sym, ap, subst, set}
use Rattle.page_map.specs.Logs.{slot_in}
use Rattle.range_tree.specs.Trees.{place_entry}
use Rattle.window_core.specs.declared.states.RangeState.TheVariants as ranges
use Rattle.window_core.specs.Good.{IsGood}
use Rattle.window_core.specs.Window.{Side, no_side, grown, settle_mapped}
use Rattle.window_core.specs.Machine.{window_of}
use Rattle.window_core.proofs.Places.{at_default}
use Rattle.window_core.proofs.Keeps.{side_inside}
use Rattle.window_core.proofs.Reading.{moved_free}
use Rattle.window_core.proofs.window.CoreWindow.settle_mapped.Goals as goal

pub place-requires-clause-free_range : goal.place-requires-clause-free_range
place-requires-clause-free_range c = let h = window_of c.args.self.now in let g = c.args.guest in let x = c.in-Some.spot in let may = c.in-Some.ensures in let good : IsGood h = (c.requires.0, c.requires.2, c.requires.3) in
    let is = at_default h.sides x.file c.index_mut.result.now no_side (side_inside h x.file g may.2) c.index_mut.ensures.value in
    subst (λ (s : Side). slot_in s.log x.range ≡ None) is (moved_free h good g x.range may.0 x.file may.2)

pub returns : goal.returns
returns c = let h = window_of c.args.self.now in let g = c.args.guest in let x = c.in-Some.spot in let may = c.in-Some.ensures in
    let is = at_default h.sides x.file c.index_mut.result.now no_side (side_inside h x.file g may.2) c.index_mut.ensures.value in
    let grew = c.in_ok-place.ensures.ok ∙ ap (λ (s : Side). grown g (place_entry c.args.chunk x.range c.args.mode) s) (sym is) in
    (settle_mapped x.range x.file c.args.chunk c.args.mode, (x.range, x.file, refl), may, (λ i. record h { states = set h.states x.range (ranges.Mapped x.file c.args.chunk c.args.mode); sides = set h.sides x.file (grew i) }))
