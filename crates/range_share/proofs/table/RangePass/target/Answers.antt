use Rattle.std.proofs.Common.{subst}
use Rattle.range_share.specs.Known.{Known, known, Aimed}
use Rattle.range_share.proofs.Calling.{sound_aimed, aimed_is}
use Rattle.range_share.proofs.table.RangePass.target.Goals as goal

pub invariant_of-self : goal.invariant_of-self
invariant_of-self c = let s = c.self.inside in let p = c.point in
    sound_aimed s.seat p.new.seat s.hand s.file s.guest s.moves s.ranges s.files s.looks c.self.invariant p.ensures.table c.args.range p.result p.ensures.deed

pub returns : goal.returns
returns c = let s = c.self.inside in let p = c.point in
    subst (λ (k : Known). Aimed c.args.range p.result k (known p.new.seat)) c.self.view_is
    (aimed_is s.seat p.new.seat s.hand s.file s.guest s.moves s.ranges s.files s.looks c.self.invariant p.ensures.table c.args.range p.result p.ensures.pinned p.ensures.held p.ensures.deed)
