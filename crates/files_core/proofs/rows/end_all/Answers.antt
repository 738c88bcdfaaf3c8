use Rattle.std.proofs.Common.{◌∙◌, ap, set, arith}
use Rattle.std.proofs.lemmas.List.Edits.{map_over_more}
use Rattle.files_core.specs.declared.rows.Note.{Note}
use Rattle.files_core.specs.Files.{ended_at}
use Rattle.files_core.proofs.rows.end_all.Goals as goal

pub loop-i-preserved : goal.loop-i-preserved
loop-i-preserved c = ap (λ (x : Note). set c.loop-i.notes.items c.loop-i.i x) c.ended_at.ensures
    ∙ map_over_more (ended_at c.args.seen) c.args.notes.now.items c.loop-i.notes.items c.loop-i.i c.index.result.now (omega arith) c.loop-i.invariant c.index.ensures
