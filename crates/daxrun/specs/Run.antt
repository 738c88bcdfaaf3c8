-- What a run writes, and when it ends with which status.
use Rattle.std.specs.Prelude.{◌≡◌, ℕ, ◌<◌, ◌≤◌, Bool, true, false, nat_lt, List, [], ◌∷◌, length, codes, slice_get, Option, Some, None, is_none, Result, Ok, Err, if◌then◌else◌}
use Rattle.std.specs.Fmt.{decimal}
use Rattle.std.specs.Str.{bytes_eq}
use Rattle.std.specs.Io.KnownBytes.{Appends, Keeps}
use Rattle.plain_file.specs.Counts.{Rose}
use Rattle.plain_text.specs.Printed.{line}
use Rattle.dax_script.specs.declared.scripts.Call.{Call}
use Rattle.dax_script.specs.declared.scripts.Script.{Script}
use Rattle.dax_script.specs.Asks.{hold_places}
use Rattle.program_io.specs.declared.statuses.Status.{Status}
use Rattle.program_io.specs.declared.statuses.Status.TheVariants as statuses
use Rattle.dax_script.specs.Whys.{why_word}
use Rattle.program_io.specs.Causes.{AppendsPart}
use Rattle.dax_script.specs.ScriptText.{BadLine, script_of}
use Rattle.transcript_text.specs.declared.transcripts.GuestPart.{GuestPart}
use Rattle.transcript_text.specs.declared.transcripts.Transcript.{Transcript}
use Rattle.dax_audit.specs.Legal.{IsLegal}
use Rattle.dax_audit.specs.Tables.{log_in}
use Rattle.transcript_text.specs.TranscriptText.{text_of}
use Rattle.transcript_text.specs.TranscriptReading.{transcript_of}
use Rattle.guest_run.specs.Working.{AllDone, IsFair}
use Rattle.daxrun.specs.declared.runs.Shown.{Shown}
use Rattle.daxrun.specs.declared.runs.Shown.TheVariants as shows

-- the most bytes that are read
abbrev pub limit : ℕ
limit = 16777216

-- the words are the command that reads a script
abbrev pub is_script_command : List (List ℕ) → Bool
is_script_command [] = false
is_script_command (w ∷ []) = bytes_eq w (codes "script")
is_script_command (w ∷ v ∷ ws) = false

abbrev pub usage_line : List ℕ
usage_line = codes "usage: daxrun script | load N\n"

abbrev pub too_long_line : List ℕ
too_long_line = codes "too long\n"

-- ---- refusals

-- the first line of a text that is no line of a script, and why
abbrev pub refused_line : BadLine → List ℕ
refused_line bad = line (codes "refused" ∷ codes "line" ∷ decimal bad.line ∷ why_word bad.why ∷ [])

-- the line that refuses a text, by what it reads as; None where it is a script
abbrev pub refusal : Result Script BadLine → Option (List ℕ)
refusal (Ok s) = None
refusal (Err bad) = Some (refused_line bad)

-- ---- what is due

-- The lines of a guest that is alone, without a background, are fair: a truncation is refused exactly for the guest's own holds on the file, and where no range could be taken, its own holds have them, and none is on a chunk that the call needs.
pub record IsFairAlone (script : Script) (t : Transcript) : Type 0 where
  pub each : script.background ≡ 0 → length script.guests ≡ 1 → (g : ℕ) (cs : List Call) (part : GuestPart) → slice_get script.guests g ≡ Some cs → slice_get t.guests g ≡ Some part → IsFair script.ranges (log_in t) cs part.lines

-- Each line says that its call is done: without ranges, those of all guests; of a guest that is alone, without a background, where it asks for no hold.
pub record AreLinesDone (script : Script) (t : Transcript) : Type 0 where
  pub without : script.ranges ≡ 0 → (g : ℕ) (cs : List Call) (part : GuestPart) → slice_get script.guests g ≡ Some cs → slice_get t.guests g ≡ Some part → AllDone part.lines
  pub alone : script.background ≡ 0 → length script.guests ≡ 1 → (g : ℕ) (cs : List Call) (part : GuestPart) → slice_get script.guests g ≡ Some cs → slice_get t.guests g ≡ Some part → hold_places 0 cs ≡ [] → AllDone part.lines

-- The text is that of this transcript, which is legal for the script, and it is read as this transcript. A call of a guest that is alone is done unless its own holds stand against it.
pub record IsTextOf (script : Script) (transcript : Transcript) (text : List ℕ) : Type 0 where
  pub legal : IsLegal script transcript
  pub fair : IsFairAlone script transcript
  pub done : AreLinesDone script transcript
  pub writes : text ≡ text_of transcript
  pub determined : transcript_of text ≡ Ok transcript

-- the input is a script, and the text is one of its transcripts
pub record Transcribes (input text : List ℕ) : Type 0 where
  pub script : Script
  pub transcript : Transcript
  pub reads : script_of input ≡ Ok script
  pub told : IsTextOf script transcript text

-- what is shown is that the input's script was played, and the text is that of its run's transcript
abbrev pub Shows : List ℕ → List ℕ → Shown → Type 0
Shows input text shows.Nothing = ⊥
Shows input text (shows.Script p) = (script_of input ≡ Ok p.script) × IsTextOf p.script p.transcript text

-- the text of an input that was read whole
abbrev pub IsAnswerTo : List ℕ → Status → List ℕ → Type 0
IsAnswerTo input statuses.Ok text = Transcribes input text
IsAnswerTo input statuses.Refused text = refusal (script_of input) ≡ Some text
IsAnswerTo input statuses.Usage text = ⊥
IsAnswerTo input statuses.TooLong text = ⊥
IsAnswerTo input statuses.ReadFault text = ⊥
IsAnswerTo input statuses.WriteFault text = ⊥
IsAnswerTo input statuses.Memory text = ⊥
IsAnswerTo input statuses.NotLegal text = ⊥

-- what is shown beside such a text: a play beside a transcript, else nothing
abbrev pub ShowsBeside : List ℕ → Status → List ℕ → Shown → Type 0
ShowsBeside input statuses.Ok text shown = Shows input text shown
ShowsBeside input statuses.Refused text shown = shown ≡ shows.Nothing
ShowsBeside input statuses.Usage text shown = ⊥
ShowsBeside input statuses.TooLong text shown = ⊥
ShowsBeside input statuses.ReadFault text shown = ⊥
ShowsBeside input statuses.WriteFault text shown = ⊥
ShowsBeside input statuses.Memory text shown = ⊥
ShowsBeside input statuses.NotLegal text shown = ⊥

-- the text that is due with a status, for these words and this whole input
abbrev pub IsDue : List (List ℕ) → List ℕ → Status → List ℕ → Type 0
IsDue words input statuses.Ok text = (is_script_command words ≡ true) × (length input ≤ limit) × Transcribes input text
IsDue words input statuses.Refused text = (is_script_command words ≡ true) × (length input ≤ limit) × (refusal (script_of input) ≡ Some text)
IsDue words input statuses.Usage text = (is_script_command words ≡ false) × (text ≡ usage_line)
IsDue words input statuses.TooLong text = (is_script_command words ≡ true) × (limit < length input) × (text ≡ too_long_line)
IsDue words input statuses.ReadFault text = ⊥
IsDue words input statuses.WriteFault text = ⊥
IsDue words input statuses.Memory text = ⊥
IsDue words input statuses.NotLegal text = ⊥

-- the status that is due, where nothing fails
abbrev pub due_status : List (List ℕ) → List ℕ → Status
due_status words input =
    if is_script_command words then (if nat_lt limit (length input) then statuses.TooLong else if is_none (refusal (script_of input)) then statuses.Ok else statuses.Refused)
    else statuses.Usage

-- what a sink has after the answer to such an input, by the status: all of the text, a part of it, or nothing; and what is shown then
abbrev pub Answers : List ℕ → Option (List ℕ) → Option (List ℕ) → ℕ → ℕ → Shown → Status → Type 0
Answers input old new before now shown statuses.Ok = (text : List ℕ) × Transcribes input text × Appends old new text × Shows input text shown
Answers input old new before now shown statuses.Refused = (text : List ℕ) × (refusal (script_of input) ≡ Some text) × Appends old new text × (shown ≡ shows.Nothing)
Answers input old new before now shown statuses.WriteFault = Rose before now × ((status : Status) × (text : List ℕ) × IsAnswerTo input status text × AppendsPart old new text) × (shown ≡ shows.Nothing)
Answers input old new before now shown statuses.Memory = Keeps old new × (shown ≡ shows.Nothing)
Answers input old new before now shown statuses.Usage = ⊥
Answers input old new before now shown statuses.ReadFault = ⊥
Answers input old new before now shown statuses.TooLong = ⊥
Answers input old new before now shown statuses.NotLegal = ⊥
