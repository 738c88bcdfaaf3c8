use Rattle.std.proofs.Common.{subst}
use Rattle.window_core.specs.Window.{set_map}
use Rattle.range_share.specs.Steps.{Always}
use Rattle.range_share.specs.Known.{Known, known, IsDeed}
use Rattle.range_share.proofs.Calling.{sound_mapped, deed_of, guest_small}
use Rattle.range_share.proofs.table.RangePass.set_map.Goals as goal

pub invariant_of-self : goal.invariant_of-self
invariant_of-self c = let s = c.self.inside in let t = c.put_map.new.seat in
    sound_mapped s.seat t s.hand s.file s.guest s.moves s.ranges s.files s.looks c.self.invariant c.put_map.ensures.table c.args.range c.args.to c.put_map.ensures.deed

pub returns : goal.returns
returns c = let s = c.self.inside in let t = c.put_map.new.seat in let d = set_map c.args.range c.args.to in
    subst (λ (k : Known). IsDeed d k.view.noted Always k (known t)) c.self.view_is
    (deed_of s.seat t d s.seat.me.0.noted Always c.put_map.ensures.table (guest_small s.seat t s.hand s.file s.guest s.moves s.ranges s.files s.looks c.self.invariant c.put_map.ensures.table) c.put_map.ensures.deed.0)
