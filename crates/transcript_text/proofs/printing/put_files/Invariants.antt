use Rattle.std.proofs.Common.{◌≡◌, ◌++◌, take}
use Rattle.std.specs.List.{flat_map}
use Rattle.plain_text.specs.Printed.{line}
use Rattle.transcript_text.specs.TranscriptText.{file_lines}
use Rattle.transcript_text.proofs.printing.put_files.Given as goal

abbrev pub invariant-loop-file : goal.invariant-loop-file
invariant-loop-file l = l.out.items ≡ l.fn.out.items ++ flat_map line (flat_map file_lines (take l.file-index l.files))
