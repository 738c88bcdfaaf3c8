use Rattle.std.proofs.Common.{subst, ap, ◌∙◌, arith}
use Rattle.window_core.specs.Window.{settle_free}
use Rattle.range_share.specs.Steps.{Always, moves_at, ranges_of}
use Rattle.range_share.specs.Known.{Known, known, IsDeed}
use Rattle.range_share.proofs.Calling.{sound_freed, deed_of, guest_small}
use Rattle.range_share.proofs.table.RangePass.settle_free.Goals as goal

pub invariant_of-self : goal.invariant_of-self
invariant_of-self c = let s = c.self.inside in let t = c.settle_out.new.seat in
    sound_freed s.seat t s.hand s.file s.guest s.moves s.ranges s.files s.looks c.self.invariant c.settle_out.ensures.table c.args.range c.settle_out.ensures.deed
    (ap (λ (k : Known). moves_at k.view c.args.range) c.self.view_is ∙ c.requires.range.1)
    (let e = ap (λ (k : Known). ranges_of k.view) c.self.view_is in let l = c.requires.range.0 in omega arith)

pub returns : goal.returns
returns c = let s = c.self.inside in let t = c.settle_out.new.seat in let d = settle_free c.args.range in
    subst (λ (k : Known). IsDeed d k.view.noted Always k (known t)) c.self.view_is
    (deed_of s.seat t d s.seat.me.0.noted Always c.settle_out.ensures.table (guest_small s.seat t s.hand s.file s.guest s.moves s.ranges s.files s.looks c.self.invariant c.settle_out.ensures.table) c.settle_out.ensures.deed.0)
