use Rattle.std.proofs.Common.{◌<◌, ℕ, sym, ap, ◌∙◌, subst}
use Rattle.atomic_table.specs.Seated.{TableId}
use Rattle.file_share.specs.Known.{entry_of}
use Rattle.file_share.proofs.TestTurns.{turn_made}
use Rattle.file_share.proofs.tests.act.Goals as goal

pub returns : goal.returns
returns g c = let e = c.enter.ensures in
    turn_made c.args.file (entry_of c.enter.new.self c.args.op) c.args.pass.now c.enter.new.self c.apply-result.new.self c.leave.new.self c.apply-result.result
    (subst (λ (n : ℕ). c.args.file < n) (sym (c.sound.ensures.wide ∙ ap (λ (t : TableId). t.slots) c.requires.table.0)) c.requires.table.1) c.requires.idle e.deed e.entered c.apply-result.ensures c.leave.ensures
