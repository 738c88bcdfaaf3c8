-- The text of a transcript.
use Rattle.std.specs.Prelude.{ℕ, List, [], ◌∷◌, ◌++◌, map, codes, Some, None}
use Rattle.std.specs.List.{flat_map}
use Rattle.std.specs.Fmt.{decimal}
use Rattle.hex.specs.Hex.{encode_lower}
use Rattle.plain_text.specs.Printed.{line}
use Rattle.plain_file.specs.declared.operations.Answer.{Answer}
use Rattle.plain_file.specs.declared.operations.Answer.TheVariants as answers
use Rattle.plain_file.specs.declared.operations.Through.{Through}
use Rattle.plain_file.specs.declared.operations.Way.{Way}
use Rattle.plain_file.specs.declared.operations.Way.TheVariants as ways
use Rattle.page_map.specs.declared.pages.Mode.{Mode}
use Rattle.page_map.specs.declared.pages.Mode.TheVariants as modes
use Rattle.page_map.specs.declared.ranges.LogEntry.{LogEntry}
use Rattle.page_map.specs.declared.ranges.LogEntry.TheVariants as logs
use Rattle.transcript_text.specs.declared.transcripts.EntryLine.{EntryLine}
use Rattle.transcript_text.specs.declared.transcripts.FilePart.{FilePart}
use Rattle.transcript_text.specs.declared.transcripts.GuestPart.{GuestPart}
use Rattle.transcript_text.specs.declared.transcripts.Line.{Line}
use Rattle.transcript_text.specs.declared.transcripts.Line.TheVariants as lines
use Rattle.transcript_text.specs.declared.transcripts.Numbered.{Numbered}
use Rattle.transcript_text.specs.declared.transcripts.Transcript.{Transcript}

abbrev pub through_words : Through → List (List ℕ)
through_words k = decimal k.entry ∷ decimal k.upto ∷ []

unfoldable pub way_words : Way → List (List ℕ)
way_words ways.Req = codes "req" ∷ []
way_words (ways.ReqSaw size) = codes "req" ∷ decimal size ∷ []
way_words (ways.Via k None) = codes "via" ∷ through_words k
way_words (ways.Via k (Some m)) = codes "via" ∷ through_words k ++ through_words m

-- bytes in hexadecimal, and - for no bytes
abbrev pub bytes_word : List ℕ → List ℕ
bytes_word [] = codes "-"
bytes_word (b ∷ bytes) = encode_lower (b ∷ bytes)

unfoldable pub answer_words : Answer → List (List ℕ)
answer_words (answers.Bytes bytes) = codes "bytes" ∷ bytes_word bytes ∷ []
answer_words (answers.Wrote n) = codes "wrote" ∷ decimal n ∷ []
answer_words (answers.Size n) = codes "size" ∷ decimal n ∷ []

unfoldable pub line_words : Line → List (List ℕ)
line_words (lines.Done place answer) = codes "done" ∷ decimal place ∷ answer_words answer
line_words (lines.Held end k) = codes "held" ∷ decimal end ∷ codes "via" ∷ through_words k
line_words lines.Released = codes "released" ∷ []
line_words (lines.Busy letters) = codes "busy" ∷ letters ∷ []
line_words (lines.Leased count) = codes "leased" ∷ decimal count ∷ []
line_words lines.NoHold = codes "nohold" ∷ []
line_words (lines.Past end) = codes "past" ∷ decimal end ∷ []

abbrev pub mode_word : Mode → List ℕ
mode_word modes.R = codes "r"
mode_word modes.W = codes "w"

-- the words behind `log`
unfoldable pub log_entry_words : LogEntry → List (List ℕ)
log_entry_words (logs.Place chunk range mode) = codes "place" ∷ decimal chunk ∷ codes "in" ∷ decimal range ∷ mode_word mode ∷ []
log_entry_words (logs.Upgrade range) = codes "upgrade" ∷ decimal range ∷ []
log_entry_words (logs.Remove range) = codes "remove" ∷ decimal range ∷ []

abbrev pub log_words : LogEntry → List (List ℕ)
log_words e = codes "log" ∷ log_entry_words e

-- the words of each line, section by section
abbrev pub entry_words : EntryLine → List (List ℕ)
entry_words e = codes "entry" ∷ decimal e.guest ∷ decimal e.call ∷ way_words e.way

abbrev pub numbered_words : Numbered → List (List ℕ)
numbered_words n = decimal n.call ∷ line_words n.line

unfoldable pub file_lines : FilePart → List (List (List ℕ))
file_lines p = (codes "file" ∷ p.name ∷ decimal p.first.size ∷ encode_lower (p.first.fill ∷ []) ∷ []) ∷ (map entry_words p.entries ++ map log_words p.log)

unfoldable pub guest_lines : GuestPart → List (List (List ℕ))
guest_lines g = (codes "guest" ∷ decimal g.guest ∷ []) ∷ map numbered_words g.lines

unfoldable pub transcript_lines : Transcript → List (List (List ℕ))
transcript_lines t =
    (codes "transcript" ∷ decimal t.version ∷ []) ∷ (codes "ranges" ∷ decimal t.ranges ∷ []) ∷
    (flat_map file_lines t.files ++ flat_map guest_lines t.guests ++ (codes "end" ∷ []) ∷ [])

-- the text: each line's words with single spaces, and a line end
unfoldable pub text_of : Transcript → List ℕ
text_of t = flat_map line (transcript_lines t)
