use Rattle.std.proofs.Common.{ℕ, ◌<◌, sym, ap, ◌∙◌, arith, length}
use mathlib.Core.Logic.{dite}
use native.Mathlib.Decide.{ℕ_discrete}
use Rattle.window_core.specs.Window.{Side, no_side, side}
use Rattle.window_core.specs.Machine.{window_of}
use Rattle.window_core.proofs.Places.{at_default}
use Rattle.window_core.proofs.Reading.{none_had}
use Rattle.window_core.proofs.window.CoreWindow.tree_of.Goals as goal

pub loop-file-preserved : goal.loop-file-preserved
loop-file-preserved c f l e = let k = c.loop-file.file in let sides = c.args.self.now.sides in dite (ℕ_discrete f k)
    (λ z. let near : k < length sides.items = (let t = c.loop-file-test.true in let n = c.len-file-end.ensures in let m = sides.ok.0 in omega arith) in
    let is = at_default sides.items k c.index.result.now no_side near c.index.ensures in
    c.if-has_tree.ensures (sym (ap (λ (s : Side). s.holder) is) ∙ (ap (λ (n : ℕ). (side (window_of c.args.self.now) n).holder) (sym z) ∙ e)))
    (λ ne. c.loop-file.invariant f (omega arith) e)

pub returns : goal.returns
returns c = none_had (window_of c.args.self.now) c.args.guest c.loop-file.file (let t = c.loop-file-test.false in let n = c.len-file-end.ensures in let m = c.args.self.now.sides.ok.0 in omega arith) c.loop-file.invariant
