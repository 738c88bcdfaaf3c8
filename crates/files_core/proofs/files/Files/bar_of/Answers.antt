use Rattle.std.proofs.Common.{ℕ, List, ◌<◌, sym, ap, subst, ◌∙◌, arith, length}
use mathlib.Core.Logic.{dite}
use native.Mathlib.Decide.{ℕ_discrete}
use Rattle.files_core.specs.Files.{FileState, file, Barless}
use Rattle.files_core.proofs.Places.{file_in, no_bar}
use Rattle.files_core.proofs.files.Files.bar_of.Goals as goal

pub loop-at-preserved : goal.loop-at-preserved
loop-at-preserved c f l e = let k = c.loop-at.at in let files = c.self.inside.files in dite (ℕ_discrete f k)
    (λ z. let near : k < length files.items = (let t = c.loop-at-test.true in let n = c.len-at-end.ensures in let m = files.ok.0 in omega arith) in
    c.if-has_bar.ensures (sym (ap (λ (c : FileState). c.bar) (file_in files.items k c.index.result.now near c.index.ensures)) ∙ (ap (λ (n : ℕ). (file files.items n).bar) (sym z) ∙ e)))
    (λ ne. c.loop-at.invariant f (omega arith) e)

pub returns : goal.returns
returns c = subst (λ (cs : List FileState). Barless cs c.args.guest) c.self.view_is (no_bar c.self.inside.files.items c.args.guest c.loop-at.at (omega arith) c.loop-at.invariant)
