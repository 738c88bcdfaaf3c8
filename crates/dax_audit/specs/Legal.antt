-- When a transcript is legal for a script, and the first fault where it isn't.
use Rattle.std.specs.Prelude.{◌≡◌, ℕ, Bool, true, List, [], ◌∷◌, length, map, slice_get, Option, Some, None}
use Rattle.std.specs.List.{range_with_len, position_from}
use Rattle.range_tree.specs.Logs.{unsound_at}
use Rattle.dax_script.specs.declared.scripts.FileLine.{FileLine}
use Rattle.dax_script.specs.declared.scripts.Script.{Script}
use Rattle.transcript_text.specs.declared.transcripts.EntryLine.{EntryLine}
use Rattle.transcript_text.specs.declared.transcripts.FilePart.{FilePart}
use Rattle.transcript_text.specs.declared.transcripts.Line.{Line}
use Rattle.transcript_text.specs.declared.transcripts.Transcript.{Transcript}
use Rattle.dax_audit.specs.Items.{Item, items}
use Rattle.dax_audit.specs.Rules.{line_at, entry_at, breaks_files, breaks_guests, breaks_forms, breaks_entries, breaks_order, breaks_replies, breaks_ways, breaks_tales, breaks_logs, fits_at, has_entry_at, rises_at, replies_right, tells_at, is_named, came_right}

-- a rule, by its number and the lines that break it
pub record Rule : Type 0 where
  pub number : ℕ
  pub breaks : Item → Bool

abbrev pub rule : ℕ → (Item → Bool) → Rule
rule number breaks = record { number = number; breaks = breaks }

unfoldable pub the_rules : Script → Transcript → List Rule
the_rules s t =
    rule 1 (breaks_files s t) ∷ rule 2 (breaks_guests s t) ∷ rule 3 (breaks_forms s t) ∷ rule 4 (breaks_entries s t) ∷ rule 5 (breaks_order s t)
    ∷ rule 6 (breaks_replies s t) ∷ rule 7 (breaks_ways s t) ∷ rule 8 (breaks_tales s t) ∷ rule 9 (breaks_logs s t) ∷ []

-- a broken rule, and the first line that breaks it, counted from 1
pub record Fault : Type 0 where
  pub rule : ℕ
  pub line : ℕ

abbrev pub fault_or : ℕ → Option ℕ → Option Fault → Option Fault
fault_or number (Some line) later = Some (record { rule = number; line = line })
fault_or number None later = later

-- the first of these rules that is broken, with the first line that breaks it
unfoldable pub first_fault : List Item → List Rule → Option Fault
first_fault is [] = None
first_fault is (r ∷ rs) = fault_or r.number (position_from r.breaks 1 is) (first_fault is rs)

unfoldable pub fault : Script → Transcript → Option Fault
fault s t = first_fault (items t) (the_rules s t)

-- A transcript is legal for a script where no rule is broken. Rule by rule:
abbrev pub file_line : FilePart → FileLine
file_line p = record { name = p.name; first = p.first }

pub record IsLegal (s : Script) (t : Transcript) : Type 0 where
  -- 1: the ranges and the files are the script's
  pub ranges : t.ranges ≡ s.ranges
  pub files : map file_line t.files ≡ s.files
  -- 2: the guests are the script's, each with one line a call, in order
  pub guests : map (λ g. g.guest) t.guests ≡ range_with_len 0 (length s.guests)
  pub calls : map (λ g. map (λ n. n.call) g.lines) t.guests ≡ map (λ cs. range_with_len 0 (length cs)) s.guests
  -- 3 to 6, 8: of each line of a call
  pub fitting : (guest call : ℕ) (l : Line) → line_at t guest call ≡ Some l → fits_at s guest call l ≡ true
  pub entries : (guest call : ℕ) (l : Line) → line_at t guest call ≡ Some l → has_entry_at s t guest call l ≡ true
  pub rising : (guest call : ℕ) (l : Line) → line_at t guest call ≡ Some l → rises_at s t guest call l ≡ true
  pub replies : (guest call : ℕ) (l : Line) → line_at t guest call ≡ Some l → replies_right s t guest call l ≡ true
  pub telling : (guest call : ℕ) (l : Line) → line_at t guest call ≡ Some l → tells_at s t guest call l ≡ true
  -- 4, 7: of each entry
  pub named : (file place : ℕ) (e : EntryLine) → entry_at t file place ≡ Some e → is_named s t file place e ≡ true
  pub ways : (file place : ℕ) (e : EntryLine) → entry_at t file place ≡ Some e → came_right s t file place e ≡ true
  -- 9: each log is sound
  pub sound : (file : ℕ) (part : FilePart) → slice_get t.files file ≡ Some part → unsound_at t.ranges part.log ≡ None
