use Rattle.std.proofs.Common.{subst}
use Rattle.window_core.specs.Window.{unpin}
use Rattle.range_share.specs.Steps.{Always}
use Rattle.range_share.specs.Known.{Known, known, IsDeed}
use Rattle.range_share.proofs.Calling.{sound_unpinned, deed_of, guest_small}
use Rattle.range_share.proofs.table.RangePass.unpin.Goals as goal

pub invariant_of-self : goal.invariant_of-self
invariant_of-self c = let s = c.self.inside in let t = c.drop_pin.new.seat in
    sound_unpinned s.seat t s.hand s.file s.guest s.moves s.ranges s.files s.looks c.self.invariant c.drop_pin.ensures.table c.args.range c.drop_pin.ensures.deed

pub returns : goal.returns
returns c = let s = c.self.inside in let t = c.drop_pin.new.seat in let d = unpin c.args.range in
    subst (λ (k : Known). IsDeed d k.view.noted Always k (known t)) c.self.view_is
    (deed_of s.seat t d s.seat.me.0.noted Always c.drop_pin.ensures.table (guest_small s.seat t s.hand s.file s.guest s.moves s.ranges s.files s.looks c.self.invariant c.drop_pin.ensures.table) c.drop_pin.ensures.deed.0)
