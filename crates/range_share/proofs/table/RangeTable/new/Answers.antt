use Rattle.std.proofs.Common.{ap, ◌∙◌}
use Rattle.atomic_table.specs.Seated.{TableId}
use Rattle.range_share.proofs.Coming.{sound_first}
use Rattle.range_share.proofs.table.RangeTable.new.Goals as goal

pub new_pass-pass-requires : goal.new_pass-pass-requires
new_pass-pass-requires c = let t = c.in_ok-table in
    sound_first t.seat c.args.ranges c.args.files c.args.movers c.requires.few.0 c.requires.few.1 t.ensures.seat.1
    (ap (λ (x : TableId). x.words) t.ensures.seat.0 ∙ t.ensures.counts.0)
    (ap (λ (x : TableId). x.slots) t.ensures.seat.0 ∙ t.ensures.counts.1)
