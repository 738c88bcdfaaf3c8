use Rattle.std.proofs.Common.{sym, subst, ap, ◌∙◌, arith}
use Rattle.range_share.specs.Steps.{Treeless}
use Rattle.range_share.specs.Known.{Known, known, Entered}
use Rattle.range_share.proofs.Calling.{sound_entered, entered_is}
use Rattle.range_share.proofs.table.RangePass.enter.Goals as goal

pub invariant_of-self : goal.invariant_of-self
invariant_of-self g c = let s = c.self.inside in let w = c.wait_enter-hand in let d = w.ensures.deed in
    sound_entered s.seat w.new.seat s.hand s.file s.guest s.moves s.ranges s.files s.looks c.self.invariant w.ensures.table c.args.file w.result d.0
    (let e = ap (λ z. z.slots) (ap (λ (k : Known). k.table) c.self.view_is ∙ c.requires.table.0) in let l = c.requires.table.1 in omega arith)
    (subst (λ (k : Known). Treeless k.view) (sym c.self.view_is) c.requires.free) d.1

pub returns : goal.returns
returns g c = let s = c.self.inside in let w = c.wait_enter-hand in
    subst (λ (k : Known). Entered c.args.file k (known w.new.seat)) c.self.view_is
    (entered_is s.seat w.new.seat s.hand s.file s.guest s.moves s.ranges s.files s.looks c.self.invariant w.ensures.table c.args.file w.result w.ensures.deed.0 w.ensures.alone w.ensures.joined)
