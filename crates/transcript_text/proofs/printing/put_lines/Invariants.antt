use Rattle.std.proofs.Common.{◌≡◌, ◌++◌, map, take}
use Rattle.std.specs.List.{flat_map}
use Rattle.plain_text.specs.Printed.{line}
use Rattle.transcript_text.specs.TranscriptText.{numbered_words}
use Rattle.transcript_text.proofs.printing.put_lines.Given as goal

abbrev pub invariant-loop-numbered : goal.invariant-loop-numbered
invariant-loop-numbered l = l.out.items ≡ l.fn.out.items ++ flat_map line (map numbered_words (take l.numbered-index l.lines))
