use Rattle.std.proofs.Common.{◌≡◌, ◌<◌, ◌+◌, ◌^◌, length}
use Rattle.plain_text.specs.Words.{parts, line_end}
use Rattle.transcript_text.specs.Drafts.{IsDraft, reading_of}
use Rattle.transcript_text.specs.TranscriptReading.{transcript_from}
use Rattle.transcript_text.proofs.parsing.parse_from.Given as goal

abbrev pub invariant-loop-after : goal.invariant-loop-after
invariant-loop-after l =
    (transcript_from l.line (reading_of l.draft) (parts line_end l.rest) ≡ transcript_from l.initial.line (reading_of l.initial.draft) (parts line_end l.initial.rest)) × IsDraft l.draft × (l.line + length l.rest < 2 ^ 64)

abbrev pub decreases-loop-after : goal.decreases-loop-after
decreases-loop-after l = length l.rest
