use Rattle.std.proofs.Common.{◌≡◌, ℕ, List, length, take}
use Rattle.std.specs.List.{AllByRecursion}
use Rattle.plain_file.specs.declared.operations.Entry.{Entry}
use Rattle.page_map.specs.declared.ranges.LogEntry.{LogEntry}
use Rattle.transcript_text.specs.TranscriptReading.{IsPrintableFile}
use Rattle.guest_run.specs.Runs.{parts_from}
use Rattle.guest_threads.specs.Ran.{AreFilesTold}
use Rattle.daxrun.proofs.plays.file_parts.Given as goal

abbrev pub invariant-loop-one : goal.invariant-loop-one
invariant-loop-one l = record {
  number : l.number ≡ length l.yielded;
  parts : (h : ℕ → List Entry) (logs : ℕ → List LogEntry) → AreFilesTold h logs (length l.lines) l.fn.told → l.parts ≡ parts_from h logs 0 (take (length l.yielded) l.lines);
  printable : AllByRecursion IsPrintableFile l.parts;
}
