use Rattle.std.proofs.Common.{take}
use Rattle.std.specs.List.{AllByRecursion}
use Rattle.transcript_text.specs.TranscriptReading.{IsPrintableLog}
use Rattle.daxrun.proofs.plays.sound_logs.Given as goal

abbrev pub invariant-loop-entry : goal.invariant-loop-entry
invariant-loop-entry l = record {
  printable : AllByRecursion IsPrintableLog (take l.entry-index l.log);
}
