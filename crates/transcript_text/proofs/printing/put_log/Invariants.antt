use Rattle.std.proofs.Common.{◌≡◌, ◌++◌, map, take}
use Rattle.std.specs.List.{flat_map}
use Rattle.plain_text.specs.Printed.{line}
use Rattle.transcript_text.specs.TranscriptText.{log_words}
use Rattle.transcript_text.proofs.printing.put_log.Given as goal

abbrev pub invariant-loop-entry : goal.invariant-loop-entry
invariant-loop-entry l = l.out.items ≡ l.fn.out.items ++ flat_map line (map log_words (take l.entry-index l.log))
