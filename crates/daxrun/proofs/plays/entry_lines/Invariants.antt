use Rattle.std.proofs.Common.{◌≡◌, map, take}
use Rattle.std.specs.List.{AllByRecursion}
use Rattle.transcript_text.specs.TranscriptReading.{IsPrintableEntry}
use Rattle.daxrun.specs.Plays.{line_of}
use Rattle.daxrun.proofs.plays.entry_lines.Given as goal

abbrev pub invariant-loop-mark : goal.invariant-loop-mark
invariant-loop-mark l = record {
  lines : l.lines ≡ map line_of (take l.mark-index l.marks);
  printable : AllByRecursion IsPrintableEntry l.lines;
}
