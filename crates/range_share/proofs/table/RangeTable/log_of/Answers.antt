use Rattle.std.proofs.Common.{◌<◌, sym, subst, ap, ◌∙◌}
use Rattle.atomic_table.specs.Seated.{TableId}
use Rattle.range_share.proofs.Rereading.{enter_has, reread, sound_then}
use Rattle.range_share.proofs.table.RangeTable.log_of.Goals as goal

pub returns-clause-kept : goal.returns-clause-kept
returns-clause-kept g c = let near = subst (λ n. c.args.file < n) (sym (c.sound.ensures.sizes.1 ∙ ap (λ (t : TableId). t.slots) c.requires.table.0)) c.requires.table.1 in
    reread c.args.file c.args.pass.now c.enter.new.self c.leave.new.self near c.enter.ensures.deed c.leave.ensures c.requires.free

pub returns-clause-sound : goal.returns-clause-sound
returns-clause-sound g c = let near = subst (λ n. c.args.file < n) (sym (c.sound.ensures.sizes.1 ∙ ap (λ (t : TableId). t.slots) c.requires.table.0)) c.requires.table.1 in
    sound_then c.args.file c.args.pass.now c.enter.new.self c.leave.new.self near c.enter.ensures.deed c.leave.ensures c.sound-2.ensures.showing (enter_has c.args.file c.args.pass.now c.enter.new.self near c.enter.ensures.deed)
