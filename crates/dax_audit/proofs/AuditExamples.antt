-- What some transcripts are for their scripts, by computation.
use Rattle.std.specs.Prelude.{◌≡◌, [], ◌∷◌, ℕ, List, codes, Some, None, refl, ⊤}
use Rattle.plain_file.specs.declared.operations.Answer.TheVariants as answers
use Rattle.plain_file.specs.declared.operations.Way.{Way}
use Rattle.plain_file.specs.declared.operations.Way.TheVariants as ways
use Rattle.plain_file.specs.File.{after, answer}
use Rattle.plain_file.specs.History.{after_all, bytes}
use Rattle.page_map.specs.declared.pages.Mode.TheVariants as modes
use Rattle.page_map.specs.declared.ranges.LogEntry.{LogEntry}
use Rattle.page_map.specs.declared.ranges.LogEntry.TheVariants as logs
use Rattle.page_map.specs.Logs.{is_writable, removes, upgrades, stays, is_written, places, live, writable, next_slots, may_upgrade, may_follow}
use Rattle.range_tree.specs.Logs.{is_live, first_unsound}
use Rattle.dax_script.specs.declared.scripts.Call.TheVariants as calls
use Rattle.dax_script.specs.declared.scripts.Script.{Script}
use Rattle.dax_script.specs.Asks.{held_of, is_hold, hold_places, target, op_from, hold_in}
use Rattle.transcript_text.specs.declared.transcripts.EntryLine.{EntryLine}
use Rattle.transcript_text.specs.declared.transcripts.Line.{Line}
use Rattle.transcript_text.specs.declared.transcripts.Line.TheVariants as lines
use Rattle.transcript_text.specs.declared.transcripts.Numbered.{Numbered}
use Rattle.transcript_text.specs.declared.transcripts.Transcript.{Transcript}
use Rattle.dax_audit.specs.Items.{items}
use Rattle.dax_audit.specs.Guests.{place_of, grant_of, is_released, after_places, first_place, is_release}
use Rattle.dax_audit.specs.Rules.{breaks_files, breaks_guests, is_reading, is_writing, is_sizing, is_truncating, is_taking, is_releasing, answers_call, fits, is_done_at, rises, same_answer, replies, chunks, pairs_of, covers, is_fresh, write_way, hold_way, is_req, windowed, is_end, grants, access_end, tells, breaks_logs, breaks_call, breaks_entry}
use Rattle.dax_audit.specs.Legal.{the_rules, first_fault, fault}

unfoldable pub faults_on_values : ⊤
unfolding after answer after_all bytes is_writable removes upgrades stays is_written places live writable next_slots may_upgrade may_follow is_live first_unsound held_of is_hold hold_places target op_from hold_in items place_of grant_of is_released after_places first_place is_release breaks_files breaks_guests is_reading is_writing is_sizing is_truncating is_taking is_releasing answers_call fits is_done_at rises same_answer replies chunks pairs_of covers is_fresh write_way hold_way is_req windowed is_end grants access_end tells breaks_logs breaks_call breaks_entry the_rules first_fault fault
faults_on_values = tt

-- ---- two guests on an empty file: one writes a byte and reads it, the other truncates

abbrev two_guests : Script
two_guests = record {
  ranges = 2;
  background = 0;
  files = record { name = codes "a"; first = record { size = 0; fill = 0 } } ∷ [];
  guests = (calls.Write 0 0 (codes "a") ∷ calls.Read 0 0 1 ∷ []) ∷ (calls.Truncate 0 0 ∷ []) ∷ [];
}

abbrev run : ℕ → List EntryLine → List LogEntry → List Numbered → List Numbered → Transcript
run ranges entries log one other = record {
  version = 1;
  ranges = ranges;
  files = record { name = codes "a"; first = record { size = 0; fill = 0 }; entries = entries; log = log } ∷ [];
  guests = record { guest = 0; lines = one } ∷ record { guest = 1; lines = other } ∷ [];
}

abbrev entry : ℕ → ℕ → Way → EntryLine
entry guest call way = record { guest = guest; call = call; way = way }

abbrev via : ℕ → ℕ → Way
via k m = ways.Via (record { entry = k; upto = m }) None

abbrev told : ℕ → Line → Numbered
told call line = record { call = call; line = line }

abbrev wrote : ℕ → Numbered
wrote place = told 0 (lines.Done place (answers.Wrote 1))

abbrev read : ℕ → List ℕ → Numbered
read place bytes = told 1 (lines.Done place (answers.Bytes bytes))

abbrev cut : ℕ → List Numbered
cut place = told 0 (lines.Done place (answers.Size 0)) ∷ []

abbrev placed : List LogEntry
placed = logs.Place 0 0 modes.R ∷ []

-- the truncation comes last, or between the write and the read
abbrev cut_last : List EntryLine
cut_last = entry 0 0 (ways.ReqSaw 0) ∷ entry 0 1 (via 0 1) ∷ entry 1 0 ways.Req ∷ []

abbrev cut_between : List EntryLine
cut_between = entry 0 0 (ways.ReqSaw 0) ∷ entry 1 0 ways.Req ∷ entry 0 1 (via 0 1) ∷ []

first_order : fault two_guests (run 2 cut_last placed (wrote 0 ∷ read 1 (codes "a") ∷ []) (cut 2)) ≡ None
unfolding faults_on_values
first_order = refl

second_order : fault two_guests (run 2 cut_between placed (wrote 0 ∷ read 2 [] ∷ []) (cut 1)) ≡ None
unfolding faults_on_values
second_order = refl

-- the places of two lines are exchanged: the first entry's call isn't done there
exchanged : fault two_guests (run 2 cut_last placed (wrote 1 ∷ read 0 (codes "a") ∷ []) (cut 2)) ≡ Some (record { rule = 4; line = 4 })
unfolding faults_on_values
exchanged = refl

-- the same with other ranges: of two broken rules the first is told
two_broken : fault two_guests (run 3 cut_last placed (wrote 1 ∷ read 0 (codes "a") ∷ []) (cut 2)) ≡ Some (record { rule = 1; line = 2 })
unfolding faults_on_values
two_broken = refl

-- the last guest's line is missing: the line behind it is `end`
line_missing : fault two_guests (run 2 cut_last placed (wrote 0 ∷ read 1 (codes "a") ∷ []) []) ≡ Some (record { rule = 2; line = 12 })
unfolding faults_on_values
line_missing = refl

wrong_kind : fault two_guests (run 2 cut_last placed (wrote 0 ∷ told 1 lines.Released ∷ []) (cut 2)) ≡ Some (record { rule = 3; line = 10 })
unfolding faults_on_values
wrong_kind = refl

wrong_byte : fault two_guests (run 2 cut_last placed (wrote 0 ∷ read 1 (codes "b") ∷ []) (cut 2)) ≡ Some (record { rule = 6; line = 10 })
unfolding faults_on_values
wrong_byte = refl

-- the size that a write by request saw isn't below its end
not_below : fault two_guests (run 2 (entry 0 0 (ways.ReqSaw 1) ∷ entry 0 1 (via 0 1) ∷ entry 1 0 ways.Req ∷ []) placed (wrote 0 ∷ read 1 (codes "a") ∷ []) (cut 2)) ≡ Some (record { rule = 7; line = 4 })
unfolding faults_on_values
not_below = refl

-- the read goes through a placement whose range was taken away before
taken_away : fault two_guests (run 2 (entry 0 0 (ways.ReqSaw 0) ∷ entry 0 1 (via 0 2) ∷ entry 1 0 ways.Req ∷ []) (logs.Place 0 0 modes.R ∷ logs.Remove 0 ∷ []) (wrote 0 ∷ read 1 (codes "a") ∷ []) (cut 2)) ≡ Some (record { rule = 7; line = 5 })
unfolding faults_on_values
taken_away = refl

no_such_range : fault two_guests (run 2 cut_last (logs.Place 0 2 modes.R ∷ []) (wrote 0 ∷ read 1 (codes "a") ∷ []) (cut 2)) ≡ Some (record { rule = 9; line = 7 })
unfolding faults_on_values
no_such_range = refl

-- ---- a hold with stores in it, one of them past its end, and an access after it was given up

abbrev holder : Script
holder = record {
  ranges = 2;
  background = 0;
  files = record { name = codes "a"; first = record { size = 5; fill = 0 } } ∷ [];
  guests = (calls.Hold 0 0 modes.W ∷ calls.Store 0 3 (codes "ab") ∷ calls.Store 0 4 (codes "ab") ∷ calls.Release 0 ∷ calls.Load 0 0 1 ∷ []) ∷ [];
}

abbrev held : Line → Transcript
held last = record {
  version = 1;
  ranges = 2;
  files = record { name = codes "a"; first = record { size = 5; fill = 0 }; entries = entry 0 1 (via 0 1) ∷ []; log = logs.Place 0 0 modes.W ∷ [] } ∷ [];
  guests = record { guest = 0; lines = told 0 (lines.Held 5 (record { entry = 0; upto = 1 })) ∷ told 1 (lines.Done 0 (answers.Wrote 2)) ∷ told 2 (lines.Past 5) ∷ told 3 lines.Released ∷ told 4 last ∷ [] } ∷ [];
}

given_up : fault holder (held lines.NoHold) ≡ None
unfolding faults_on_values
given_up = refl

-- the hold's end is told after it was given up
still_held : fault holder (held (lines.Past 0)) ≡ Some (record { rule = 8; line = 11 })
unfolding faults_on_values
still_held = refl
