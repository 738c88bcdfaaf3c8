use Rattle.std.proofs.Common.{rules, ◌≡◌, ◌<◌, length, subst, ap, arith}
use Rattle.range_share.specs.Steps.{ranges_of}
use Rattle.range_share.specs.Known.{Known, known, Looked}
use Rattle.range_share.proofs.Calling.{sound_looked, looked_is}
use Rattle.range_share.proofs.table.RangePass.look.Goals as goal

pub invariant_of-self : goal.invariant_of-self
invariant_of-self c = let s = c.self.inside in let w = c.look_at-word in
    let near : c.args.range < 256 = (let e = ap (λ (k : Known). ranges_of k.view) c.self.view_is in let few = c.self.invariant.stands.few_ranges in let l = c.requires.range in omega arith) in
    let long : length s.looks ≡ 256 = search rules in
    sound_looked s.seat w.new.seat s.hand s.file s.guest s.moves s.ranges s.files s.looks c.self.invariant w.ensures.table c.args.range w.result w.ensures.deed (omega arith)

pub returns : goal.returns
returns c = let s = c.self.inside in let w = c.look_at-word in
    subst (λ (k : Known). Looked c.args.range w.result k (known w.new.seat)) c.self.view_is
    (looked_is s.seat w.new.seat s.hand s.file s.guest s.moves s.ranges s.files s.looks c.self.invariant w.ensures.table c.args.range w.result w.ensures.tells w.ensures.deed)
