use Rattle.range_share.specs.Steps.{ranges_of}
use Rattle.range_share.specs.Known.{forgetting, no_looks}
use Rattle.std.proofs.Common.{refl}
use Rattle.range_share.proofs.Calling.{sound_noted, no_look}
use Rattle.range_share.proofs.table.RangePass.forget_looks.Goals as goal

pub invariant_of-self : goal.invariant_of-self
invariant_of-self c = let s = c.self.inside in let f = c.forget.ensures in
    sound_noted s.seat c.forget.new.seat (forgetting (ranges_of s.seat.me.0) s.seat.me.0.noted) f.table f.noted s.hand s.file s.guest s.moves s.ranges s.files s.looks c.self.invariant no_looks refl (λ r l. no_look r)
