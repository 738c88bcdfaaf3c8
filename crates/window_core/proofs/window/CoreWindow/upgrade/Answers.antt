use Rattle.std.proofs.Common.{◌∙◌, refl, sym, ap, arith, set}
use Rattle.window_core.specs.declared.states.RangeState.TheVariants as ranges
use Rattle.page_map.specs.declared.pages.Mode.TheVariants as modes
use Rattle.range_tree.specs.Trees.{upgrade_entry}
use Rattle.window_core.specs.Window.{Side, no_side, upgrade, grown}
use Rattle.window_core.specs.Good.{IsGood}
use Rattle.window_core.specs.Machine.{window_of}
use Rattle.window_core.proofs.Places.{at_default}
use Rattle.window_core.proofs.Keeps.{side_inside}
use Rattle.window_core.proofs.Reading.{there_inside, raise_needs, raise_suffices, reads}
use Rattle.window_core.proofs.window.CoreWindow.upgrade.Goals as goal

pub may_raise-requires : goal.may_raise-requires
may_raise-requires c = let x = c.in-Some.found in let good : IsGood (window_of c.args.self.now) = (c.requires.0, c.requires.2, c.requires.3) in let l = there_inside (window_of c.args.self.now) good c.args.guest c.args.range x.file x.chunk x.placed c.in-Some.ensures in let n = good.2.targets_all in omega arith

pub returns-then-not-may_raise : goal.returns-then-not-may_raise
returns-then-not-may_raise c = let x = c.in-Some.found in let good : IsGood (window_of c.args.self.now) = (c.requires.0, c.requires.2, c.requires.3) in
    ((λ d is a. c.if-not-may_raise.ensures (raise_needs (window_of c.args.self.now) good c.args.guest c.args.range x.file x.chunk x.placed c.in-Some.ensures d is a)), refl)

pub upgrade-requires-clause-reading : goal.upgrade-requires-clause-reading
upgrade-requires-clause-reading c = reads c.in-Some.found.placed.mode c.if-not-may_raise.ensures.0

pub returns : goal.returns
returns c = let h = window_of c.args.self.now in let g = c.args.guest in let x = c.in-Some.found in let there = c.in-Some.ensures in let good : IsGood (window_of c.args.self.now) = (c.requires.0, c.requires.2, c.requires.3) in
    let is = at_default h.sides x.file c.index_mut.result.now no_side (side_inside h x.file g there.0) c.index_mut.ensures.value in
    let grew = c.upgrade.ensures ∙ ap (λ (s : Side). grown g (upgrade_entry x.placed.range) s) (sym is) in
    (upgrade x.file x.chunk x.placed, (x.file, x.chunk, x.placed, there.2, refl), raise_suffices h good g c.args.range x.file x.chunk x.placed there c.if-not-may_raise.ensures, (λ i. record h { states = set h.states (sym there.2 i) (ranges.Mapped x.file x.chunk modes.W); sides = set h.sides x.file (grew i) }))
