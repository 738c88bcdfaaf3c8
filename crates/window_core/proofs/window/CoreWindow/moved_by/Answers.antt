use Rattle.std.proofs.Common.{ℕ, ◌<◌, sym, ap, ◌∙◌, arith, length}
use mathlib.Core.Logic.{dite}
use native.Mathlib.Decide.{ℕ_discrete}
use Rattle.window_core.specs.declared.states.RangeState.TheVariants as ranges
use Rattle.window_core.specs.Window.{state}
use Rattle.window_core.specs.Machine.{window_of}
use Rattle.window_core.proofs.Places.{at_default}
use Rattle.window_core.proofs.Reading.{none_moved}
use Rattle.window_core.proofs.window.CoreWindow.moved_by.Goals as goal

pub loop-range-preserved : goal.loop-range-preserved
loop-range-preserved c r l e = let k = c.loop-range.range in let states = c.args.self.now.states in dite (ℕ_discrete r k)
    (λ z. let near : k < length states.items = (let t = c.loop-range-test.true in let n = c.len-range-end.ensures in let m = states.ok.0 in omega arith) in
    c.if-is_moved_by.ensures (sym (at_default states.items k c.index.result.now ranges.Free near c.index.ensures) ∙ (ap (λ (n : ℕ). state (window_of c.args.self.now) n) (sym z) ∙ e)))
    (λ ne. c.loop-range.invariant r (omega arith) e)

pub returns : goal.returns
returns c = none_moved (window_of c.args.self.now) c.args.guest c.loop-range.range (let t = c.loop-range-test.false in let n = c.len-range-end.ensures in let m = c.args.self.now.states.ok.0 in omega arith) c.loop-range.invariant
