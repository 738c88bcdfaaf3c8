use Rattle.std.proofs.Common.{ap, sym, ◌∙◌}
use Rattle.atomic_table.specs.Seated.{TableId}
use Rattle.range_share.specs.Known.{Known}
use Rattle.range_share.proofs.Coming.{sound_child, sound_parent}
use Rattle.range_share.proofs.table.RangeTable.split.Goals as goal

pub new_pass-requires : goal.new_pass-requires
new_pass-requires c = let s = c.pass.inside in let k = c.cut-seat.ensures in let z = c.self.inside.sizes in
    let table = k.given.0 ∙ (ap (λ (p : Known). p.table) c.pass.view_is ∙ (c.requires.table ∙ sym c.self.view_is)) in
    sound_child s.seat c.cut-seat.result c.args.guest s.hand s.file s.guest s.moves s.ranges s.files s.looks c.pass.invariant k.given.0 z.ranges z.files c.requires.guest.0 k.given.1 k.showing
    (ap (λ (x : TableId). x.words) table ∙ c.self.invariant.0) (ap (λ (x : TableId). x.slots) table ∙ c.self.invariant.1)

pub invariant_of-pass : goal.invariant_of-pass
invariant_of-pass c = let s = c.pass.inside in let k = c.cut-seat.ensures in
    sound_parent s.seat c.cut-seat.new.seat c.args.guest s.hand s.file s.guest s.moves s.ranges s.files s.looks c.pass.invariant k.kept.0 k.kept.1
