-- Whether a transcript is within the bounds of the form and of its fields' types, as exactly those are that some text gives.
use Rattle.std.specs.Prelude.{ℕ, ◌^◌, ◌==◌, ◌&&◌, Bool, true, nat_lt, Some, None}
use Rattle.std.specs.List.{list_all}
use Rattle.plain_file.specs.declared.operations.Answer.{Answer}
use Rattle.plain_file.specs.declared.operations.Answer.TheVariants as answers
use Rattle.plain_file.specs.declared.operations.Through.{Through}
use Rattle.plain_file.specs.declared.operations.Way.{Way}
use Rattle.plain_file.specs.declared.operations.Way.TheVariants as ways
use Rattle.page_map.specs.declared.ranges.LogEntry.{LogEntry}
use Rattle.page_map.specs.declared.ranges.LogEntry.TheVariants as logs
use Rattle.dax_script.specs.ScriptWords.{is_script_name}
use Rattle.transcript_text.specs.declared.transcripts.EntryLine.{EntryLine}
use Rattle.transcript_text.specs.declared.transcripts.FilePart.{FilePart}
use Rattle.transcript_text.specs.declared.transcripts.GuestPart.{GuestPart}
use Rattle.transcript_text.specs.declared.transcripts.Line.{Line}
use Rattle.transcript_text.specs.declared.transcripts.Line.TheVariants as lines
use Rattle.transcript_text.specs.declared.transcripts.Numbered.{Numbered}
use Rattle.transcript_text.specs.declared.transcripts.Transcript.{Transcript}
use Rattle.transcript_text.specs.TranscriptReading.{is_letters}

abbrev pub fits_8 : ℕ → Bool
fits_8 n = nat_lt n 256

abbrev pub fits_32 : ℕ → Bool
fits_32 n = nat_lt n (2 ^ 32)

abbrev pub fits_64 : ℕ → Bool
fits_64 n = nat_lt n (2 ^ 64)

abbrev pub through_fits : Through → Bool
through_fits k = fits_64 k.entry && fits_64 k.upto

unfoldable pub way_fits : Way → Bool
way_fits ways.Req = true
way_fits (ways.ReqSaw size) = fits_64 size
way_fits (ways.Via k None) = through_fits k
way_fits (ways.Via k (Some m)) = through_fits k && through_fits m

abbrev pub entry_fits : EntryLine → Bool
entry_fits e = fits_32 e.guest && fits_32 e.call && way_fits e.way

unfoldable pub log_fits : LogEntry → Bool
log_fits (logs.Place chunk range mode) = fits_32 chunk && fits_32 range
log_fits (logs.Upgrade range) = fits_32 range
log_fits (logs.Remove range) = fits_32 range

abbrev pub file_fits : FilePart → Bool
file_fits p = is_script_name p.name && fits_64 p.first.size && fits_8 p.first.fill && list_all entry_fits p.entries && list_all log_fits p.log

unfoldable pub answer_fits : Answer → Bool
answer_fits (answers.Bytes bytes) = list_all fits_8 bytes
answer_fits (answers.Wrote n) = fits_64 n
answer_fits (answers.Size n) = fits_64 n

unfoldable pub line_fits : Line → Bool
line_fits (lines.Done place answer) = fits_64 place && answer_fits answer
line_fits (lines.Held end k) = fits_64 end && through_fits k
line_fits lines.Released = true
line_fits (lines.Busy letters) = is_letters letters
line_fits (lines.Leased count) = fits_32 count
line_fits lines.NoHold = true
line_fits (lines.Past end) = fits_64 end

abbrev pub numbered_fits : Numbered → Bool
numbered_fits n = fits_32 n.call && line_fits n.line

abbrev pub guest_fits : GuestPart → Bool
guest_fits g = fits_32 g.guest && list_all numbered_fits g.lines

unfoldable pub fits : Transcript → Bool
fits t = t.version == 1 && fits_32 t.ranges && list_all file_fits t.files && list_all guest_fits t.guests
