use Rattle.std.proofs.Common.{refl, sym, ap, ◌∙◌, set}
use Rattle.window_core.specs.Window.{no_side, left, leave}
use Rattle.window_core.specs.Machine.{window_of}
use Rattle.window_core.proofs.Places.{at_default}
use Rattle.window_core.proofs.Keeps.{side_inside}
use Rattle.window_core.proofs.window.CoreWindow.leave.Goals as goal

pub returns : goal.returns
returns c = let h = window_of c.args.self.now in let f = c.in-Some.file in let had = c.in-Some.ensures in let x = c.index_mut.result.now in
    let is = at_default h.sides f x no_side (side_inside h f c.args.guest had) c.index_mut.ensures.value in
    (leave f, (f, refl), had, (λ i. record h { sides = set h.sides f ((c.leave.ensures ∙ ap left (sym is)) i) }))
