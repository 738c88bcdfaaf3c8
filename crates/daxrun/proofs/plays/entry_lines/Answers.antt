use Rattle.std.proofs.Common.{◌∙◌, sym, subst, ◌<◌, ◌++◌, List, [], ◌∷◌, length, arith}
use Rattle.std.specs.List.{AllByRecursion}
use Rattle.std.proofs.lemmas.Option.{slice_get-get_or}
use Rattle.transcript_text.specs.declared.transcripts.EntryLine.{EntryLine}
use Rattle.transcript_text.specs.TranscriptReading.{IsPrintableEntry}
use Rattle.daxrun.specs.Plays.{line_of}
use Rattle.guest_run.proofs.Places.{all_push}
use Rattle.daxrun.proofs.Playing.{mapped_more}
use Rattle.daxrun.proofs.plays.entry_lines.Goals as goal

pub loop-mark-preserved : goal.loop-mark-preserved
loop-mark-preserved c =
    let i = c.loop-mark.mark-index in
    let all = c.args.marks.now in
    let inv = c.loop-mark.invariant in
    let lt : i < length all = omega arith in
    let x = c.entry_line.result in
    let is = c.entry_line.ensures.value in
    record {
      lines = c.in_ok-push.ensures.ok ∙ (λ j. inv.lines j ++ is j ∷ []) ∙ sym (mapped_more line_of all i _ (slice_get-get_or all i _ lt));
      printable = subst (λ (xs : List EntryLine). AllByRecursion IsPrintableEntry xs) (sym c.in_ok-push.ensures.ok) (all_push IsPrintableEntry c.loop-mark.lines x inv.printable c.entry_line.ensures.printable);
    }
