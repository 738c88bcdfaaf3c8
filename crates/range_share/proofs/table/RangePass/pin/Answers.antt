use Rattle.std.proofs.Common.{sym, subst}
use Rattle.window_core.specs.Window.{pin}
use Rattle.range_share.specs.Steps.{Always, HasIn, pinned_noted}
use Rattle.range_share.specs.Known.{Known, known, IsDeed}
use Rattle.range_share.proofs.Calling.{sound_pinned, deed_of, guest_small}
use Rattle.range_share.proofs.table.RangePass.pin.Goals as goal

pub invariant_of-self : goal.invariant_of-self
invariant_of-self c = let s = c.self.inside in let t = c.add_pin.new.seat in let q = c.requires.had in
    let has = subst (λ (k : Known). HasIn k.view.mine q.0 q.1 q.2) (sym c.self.view_is) q.3 in
    sound_pinned s.seat t s.hand s.file s.guest s.moves s.ranges s.files s.looks c.self.invariant c.add_pin.ensures.table q.0 q.1 q.2 (c.add_pin.ensures.deed q.0 q.1 q.2 has q.4)

pub returns : goal.returns
returns c f k p has at = let s = c.self.inside in let t = c.add_pin.new.seat in let has' = subst (λ (x : Known). HasIn x.view.mine f k p) (sym c.self.view_is) has in
    subst (λ (x : Known). IsDeed (pin f k p) (pinned_noted x.view.noted f k p) Always x (known t)) c.self.view_is
    (deed_of s.seat t (pin f k p) (pinned_noted s.seat.me.0.noted f k p) Always c.add_pin.ensures.table (guest_small s.seat t s.hand s.file s.guest s.moves s.ranges s.files s.looks c.self.invariant c.add_pin.ensures.table) (c.add_pin.ensures.deed f k p has' at).0)
