use Rattle.std.proofs.Common.{◌∙◌, sym}
use Rattle.dax_audit.proofs.Exactly.{small_files}
use Rattle.dax_audit.proofs.audits.find_fault.Goals as goal

pub all_replays-requires-clause-small : goal.all_replays-requires-clause-small
all_replays-requires-clause-small c = small_files c.args.script.now c.args.t.now (sym c.in_default.is ∙ c.rule_1.ensures) c.requires.sound.sizes
