-- What `audit` prints of a script, a line `---` and a transcript.
use Rattle.std.specs.Prelude.{ℕ, List, [], ◌∷◌, ◌++◌, codes, Option, Some, None, option_map, Result, Ok, Err, if◌then◌else◌}
use Rattle.std.specs.Fmt.{decimal}
use Rattle.std.specs.List.{join_with_byte}
use Rattle.std.specs.Str.{bytes_eq}
use Rattle.program_io.specs.declared.statuses.Status.TheVariants as statuses
use Rattle.plain_text.specs.Printed.{line}
use Rattle.plain_text.specs.Words.{parts, line_end}
use Rattle.dax_script.specs.declared.scripts.Script.{Script}
use Rattle.dax_script.specs.ScriptText.{BadLine, script_of}
use Rattle.dax_script.specs.Whys.{why_word}
use Rattle.transcript_text.specs.declared.transcripts.Transcript.{Transcript}
use Rattle.transcript_text.specs.TranscriptReading.{transcript_of}
use Rattle.dax_audit.specs.declared.verdicts.Verdict.{Verdict}
use Rattle.dax_audit.specs.declared.verdicts.Verdict.TheVariants as verdicts
use Rattle.dax_audit.specs.Legal.{fault}
use Rattle.dax_audit.specs.Tables.{verdict_of}
use Rattle.daxwire.specs.Wholes.{Due}

-- ---- the two texts

pub record Texts : Type 0 where
  pub script : List ℕ
  pub transcript : List ℕ

-- the line that parts them
abbrev pub divider : List ℕ
divider = codes "---"

-- a script with these bytes before it
abbrev pub behind : List ℕ → Texts → Texts
behind front t = record t { script = front ++ t.script }

-- the texts round the first line that is the divider: the lines before it with their ends, and what lies behind its end
unfoldable pub texts_round : List (List ℕ) → Option Texts
texts_round [] = None
texts_round (l ∷ ls) =
    if bytes_eq l divider then Some (record { script = []; transcript = join_with_byte line_end ls })
    else option_map (behind (l ++ line_end ∷ [])) (texts_round ls)

unfoldable pub texts_of : List ℕ → Option Texts
texts_of input = texts_round (parts line_end input)

-- ---- what is due

-- for a verdict
unfoldable pub verdict_due : Verdict → Due
verdict_due verdicts.Legal = record { text = codes "legal\n"; status = statuses.Ok }
verdict_due (verdicts.Fault rule number) = record { text = line (codes "rule" ∷ decimal rule ∷ codes "line" ∷ decimal number ∷ []); status = statuses.NotLegal }

-- the line that refuses a script, and the one that refuses a transcript
abbrev pub bad_script_line : BadLine → List ℕ
bad_script_line bad = line (codes "script" ∷ codes "line" ∷ decimal bad.line ∷ why_word bad.why ∷ [])

abbrev pub bad_transcript_line : ℕ → List ℕ
bad_transcript_line n = line (codes "transcript" ∷ codes "line" ∷ decimal n ∷ [])

-- for a script and what the second text reads as: the lines of a transcript count from the one behind the divider
unfoldable pub transcript_due : Script → Result Transcript ℕ → Due
transcript_due s (Ok t) = verdict_due (verdict_of (fault s t))
transcript_due s (Err n) = record { text = bad_transcript_line n; status = statuses.Refused }

-- for what the first text reads as: the script is judged before the transcript
unfoldable pub script_due : Result Script BadLine → List ℕ → Due
script_due (Ok s) text = transcript_due s (transcript_of text)
script_due (Err bad) text = record { text = bad_script_line bad; status = statuses.Refused }

-- for two texts, or none
unfoldable pub divided_due : Option Texts → Due
divided_due None = record { text = codes "no transcript\n"; status = statuses.Refused }
divided_due (Some t) = script_due (script_of t.script) t.transcript

-- for an input within the limit
unfoldable pub texts_due : List ℕ → Due
texts_due input = divided_due (texts_of input)
