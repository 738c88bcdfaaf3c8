use Rattle.std.proofs.Common.{sym, subst}
use Rattle.range_share.specs.Table.{IsIdle}
use Rattle.range_share.specs.Known.{Known, TookIn, known}
use Rattle.range_share.proofs.Coming.{sound_joined, took_in}
use Rattle.range_share.proofs.table.RangeTable.join.Goals as goal

pub invariant_of-pass : goal.invariant_of-pass
invariant_of-pass c = let s = c.pass.inside in let o = c.other.inside in let k = c.merge.ensures in
    sound_joined s.seat c.merge.new.seat o.seat k.kept.1 k.kept.0 s.hand s.file s.guest s.moves s.ranges s.files s.looks c.pass.invariant
    (subst (λ (p : Known). IsIdle p.view.mine) (sym c.pass.view_is) c.requires.free.0) k.showing

pub returns : goal.returns
returns c = let s = c.pass.inside in let o = c.other.inside in let k = c.merge.ensures in
    subst (λ (z : Known × Known). TookIn z.0 z.1 (known c.merge.new.seat)) (λ i. (c.pass.view_is i, c.other.view_is i))
    (took_in s.seat c.merge.new.seat o.seat k.kept.1 k.kept.0 k.begins.0 k.begins.1)
