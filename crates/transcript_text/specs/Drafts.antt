-- The words behind a word, and a transcript that is read so far.
use Rattle.std.specs.Prelude.{◌≡◌, ℕ, ◌+◌, codes, List, [], ◌∷◌, ◌++◌, Option, Some, None, option_map, MatchOption, ⊤, Bool, false, ◌==◌, Result, Err}
use Rattle.std.specs.Borrow.{Bor}
use Rattle.plain_text.specs.Words.{parts, space, line_end}
use Rattle.transcript_text.specs.declared.transcripts.EntryLine.{EntryLine}
use Rattle.transcript_text.specs.declared.transcripts.FilePart.{FilePart}
use Rattle.transcript_text.specs.declared.transcripts.GuestPart.{GuestPart}
use Rattle.transcript_text.specs.declared.transcripts.Line.{Line}
use Rattle.transcript_text.specs.declared.transcripts.Line.TheVariants as lines
use Rattle.transcript_text.specs.declared.transcripts.Numbered.{Numbered}
use Rattle.transcript_text.specs.declared.transcripts.Transcript.{Transcript}
use Rattle.transcript_text.specs.declared.transcripts.BadTranscript.{BadTranscript}
use Rattle.transcript_text.specs.declared.transcripts.BadTranscript.TheVariants as bad
use Rattle.plain_text.specs.Options.{◌>>=◌}
use Rattle.page_map.specs.declared.ranges.LogEntry.{LogEntry}
use Rattle.transcript_text.specs.TranscriptReading.{number_32, number_64, via_of, Reading, Start, Version, Parts, Ended, onto_last, with_entry, with_log, with_line, line_read, or_line, transcript_from}
use Rattle.transcript_text.specs.declared.drafts.Draft.{Draft}

-- the words of what lies behind a space; none where there is no space
abbrev pub behind : Option (Bor (List ℕ)) → List (List ℕ)
behind None = []
behind (Some r) = parts space r.now

abbrev pub listed : {X : Type 0} → Option X → List X
listed None = []
listed (Some x) = x ∷ []

-- what a draft has read
abbrev pub reading_of : Draft → Reading
reading_of d = Parts d.ranges (d.files ++ listed d.file) (d.guests ++ listed d.guest)

-- where there is no part in hand, there is none before it
abbrev pub IsFirst : {X : Type 0} → List X → Option X → Type 0
IsFirst before now = MatchOption now (before ≡ []) (λ x. ⊤)

pub record IsDraft (d : Draft) : Type 0 where
  pub files : IsFirst d.files d.file
  pub guests : IsFirst d.guests d.guest

-- one part more
unfoldable pub file_more : FilePart → Reading → Option Reading
file_more part (Parts ranges files []) = Some (Parts ranges (files ++ part ∷ []) [])
file_more part r = None

unfoldable pub entry_more : EntryLine → Reading → Option Reading
entry_more e (Parts ranges files []) = option_map (λ changed. Parts ranges changed []) (onto_last (with_entry e) files)
entry_more e r = None

unfoldable pub log_more : LogEntry → Reading → Option Reading
log_more e (Parts ranges files []) = option_map (λ changed. Parts ranges changed []) (onto_last (with_log e) files)
log_more e r = None

unfoldable pub guest_more : GuestPart → Reading → Option Reading
guest_more part (Parts ranges files guests) = Some (Parts ranges files (guests ++ part ∷ []))
guest_more part r = None

unfoldable pub line_more : Numbered → Reading → Option Reading
line_more n (Parts ranges files guests) = option_map (λ changed. Parts ranges files changed) (onto_last (with_line n) guests)
line_more n r = None

-- the lines of one number, and of a hold
abbrev pub leased_of : List ℕ → Option Line
leased_of word = option_map (λ n. lines.Leased n) (number_32 word)

abbrev pub past_of : List ℕ → Option Line
past_of word = option_map (λ z. lines.Past z) (number_64 word)

abbrev pub held_of : List ℕ → List (List ℕ) → Option Line
held_of number words = number_64 number >>= λ z. option_map (λ k. lines.Held z k) (via_of words)

-- what was read with the ranges' line, and at the end
abbrev pub parts_from : ℕ → Reading
parts_from ranges = Parts ranges [] []

abbrev pub end : Transcript → Reading
end t = Ended t

abbrev pub start : Reading
start = Start

abbrev pub version : Reading
version = Version

abbrev pub is_one : Option ℕ → Bool
is_one None = false
is_one (Some n) = n == 1

-- why a text is no transcript: its first bad line; want of memory has no cause in the text
abbrev pub IsCause : BadTranscript → Result Transcript ℕ → Type 0
IsCause (bad.Line line) r = r ≡ Err line
IsCause bad.Memory r = ⊤

-- the same of the n-th line: it gives no reading
abbrev pub IsBadLine : BadTranscript → ℕ → Option Reading → Type 0
IsBadLine (bad.Line line) n read = (line ≡ n) × (read ≡ None)
IsBadLine bad.Memory n read = ⊤

-- the transcript of the n-th line, `end`, with the words behind it, and of the text behind that line
abbrev pub at_end : ℕ → Reading → List (List ℕ) → List ℕ → Result Transcript ℕ
at_end n r words after = or_line n (line_read r (codes "end" ∷ words)) (λ next. transcript_from (n + 1) next (parts line_end after))
