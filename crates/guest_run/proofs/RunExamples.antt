-- Ways that fit and ways that don't, and two short runs, by computation.
use Rattle.std.proofs.Common.{◌≡◌, ◌≢◌, ◌∙◌, inl, inr, refl, sym, ap, ℕ, zero, suc, ◌+◌, ◌≤◌, List, [], ◌∷◌, length, codes, None, arith}
use Rattle.std.proofs.lemmas.Bool.{true≢false}
use Rattle.plain_file.specs.declared.operations.Answer.TheVariants as answers
use Rattle.plain_file.specs.declared.operations.Entry.{Entry}
use Rattle.plain_file.specs.declared.operations.First.{First}
use Rattle.plain_file.specs.declared.operations.Op.TheVariants as ops
use Rattle.plain_file.specs.declared.operations.Way.{Way}
use Rattle.plain_file.specs.declared.operations.Way.TheVariants as ways
use Rattle.plain_file.specs.declared.operations.Through.{Through}
use Rattle.plain_file.specs.File.{answer}
use Rattle.plain_file.specs.History.{after_all, bytes, size}
use Rattle.plain_file.specs.Board.{Note}
use Rattle.page_map.specs.declared.pages.Mode.TheVariants as modes
use Rattle.page_map.specs.declared.ranges.LogEntry.{LogEntry}
use Rattle.page_map.specs.declared.ranges.LogEntry.TheVariants as logs
use Rattle.page_map.specs.Logs.{is_writable, removes, upgrades, stays, is_written, places, live, writable}
use Rattle.range_tree.specs.Logs.{is_live}
use Rattle.dax_script.specs.declared.scripts.Call.{Call}
use Rattle.dax_script.specs.declared.scripts.Call.TheVariants as calls
use Rattle.dax_script.specs.Asks.{held_of, is_hold, hold_places, hold_in}
use Rattle.transcript_text.specs.declared.transcripts.Line.TheVariants as lines
use Rattle.transcript_text.specs.declared.transcripts.Line.{Line}
use Rattle.transcript_text.specs.declared.transcripts.Numbered.{Numbered}
use Rattle.dax_audit.specs.declared.verdicts.Grant.{Grant}
use Rattle.dax_audit.specs.Guests.{grant_of, is_release, is_released}
use Rattle.dax_audit.specs.Tables.{end_of}
use Rattle.dax_audit.specs.Rules.{is_taking, chunks, pairs_of, covers}
use Rattle.guest_run.specs.Runs.{asked, through_hold, the_entry, FitsWindow, FitsWay, CoversOp, Came, IsThroughHold, IsGranted, IsLeased, IsRunFrom}
use Rattle.guest_run.proofs.Places.{none_is, some_is}
use Rattle.guest_run.proofs.Guests.{was_only, begun, one_else, one_more, seen_until_next}

-- an empty file, and one of five bytes
abbrev empty : First
empty = record { size = 0; fill = 0 }

abbrev five : First
five = record { size = 5; fill = 0 }

-- the first chunk is placed for reading, and then its range is taken away
abbrev placed : List LogEntry
placed = logs.Place 0 0 modes.R ∷ []

abbrev removed : List LogEntry
removed = logs.Place 0 0 modes.R ∷ logs.Remove 0 ∷ []

abbrev via : ℕ → ℕ → Way
via k m = ways.Via (record { entry = k; upto = m }) None

-- each length of a history from the n-th on
abbrev from_on : ℕ → ℕ → Type 0
from_on n k = n ≤ k

read_through_live : FitsWindow five [] placed (from_on 0) 0 (ops.Read 1 2) (via 0 1)
unfolding FitsWindow chunks pairs_of covers is_live live writable places stays is_written removes upgrades is_writable
read_through_live = refl

-- a read doesn't fit through a placement that was removed below the length that it names
read_through_dead : FitsWindow five [] removed (from_on 0) 0 (ops.Read 1 2) (via 0 2) → ⊥
unfolding FitsWindow chunks pairs_of covers is_live live writable places stays is_written removes upgrades is_writable
read_through_dead fits = true≢false (sym fits)

-- a write through the window ends within the file
write_past_the_end : FitsWindow five [] (logs.Place 0 0 modes.W ∷ []) (from_on 0) 0 (ops.Write 4 (codes "ab")) (via 0 1) → ⊥
unfolding FitsWindow bytes after_all
write_past_the_end fits = let end : 4 + 2 ≤ 5 = fits.0 in omega (arith, end)

-- a write by request saw a size below its end
write_by_request : FitsWay 2 empty [] [] (from_on 0) 0 (ops.Write 0 (codes "a")) (ways.ReqSaw 0)
unfolding FitsWindow bytes after_all
write_by_request = record { without = λ none. absurd (omega (arith, none)); windowed = λ some. (omega arith, (0, omega arith, omega arith, refl)) }

-- without any range there is no placement to go through
no_window : FitsWay 0 five [] placed (from_on 0) 0 (ops.Read 1 2) (via 0 1) → ⊥
no_window fits = let is : via 0 1 ≡ ways.Req = fits.without refl in cc

-- a run of one read for which none of two ranges could be taken
blocked_run : (first : ℕ → First) (h : ℕ → List Entry) (log : ℕ → List LogEntry) (notes : ℕ → List Note) → IsRunFrom 0 2 first (λ f. length (h f)) h log notes (calls.Read 0 0 1 ∷ []) (record { call = 0; line = lines.Busy (codes "hh") } ∷ [])
unfolding is_taking
blocked_run first h log notes = one_else 0 2 first (λ f. length (h f)) h log notes (calls.Read 0 0 1 ∷ []) [] (calls.Read 0 0 1) _ refl (begun 0 2 first h log notes (calls.Read 0 0 1 ∷ [])) (inr (inr (inl (record { letters = codes "hh"; takes = refl; line = refl; some = omega arith; each = refl }))))

-- ---- a run through a hold: granted, two bytes loaded, a load past its end, given back, and a load without it

abbrev held_calls : List Call
held_calls = calls.Hold 0 0 modes.R ∷ calls.Load 0 1 2 ∷ calls.Load 0 4 2 ∷ calls.Release 0 ∷ calls.Load 0 0 1 ∷ []

abbrev firsts : ℕ → First
firsts f = five

abbrev nothing_yet : ℕ → List Entry
nothing_yet f = []

-- the load's entry, in the first file
abbrev loaded : ℕ → List Entry
loaded zero = the_entry 0 1 (ops.Read 1 2) (via 0 1) ∷ []
loaded (suc f) = []

abbrev places_of : ℕ → List LogEntry
places_of f = placed

abbrev none_noted : ℕ → List Note
none_noted f = []

abbrev pair : Through
pair = record { entry = 0; upto = 1 }

abbrev given : Grant
given = record { end = 5; through = pair }

abbrev told : ℕ → Line → Numbered
told n line = record { call = n; line = line }

abbrev line_held : Numbered
line_held = told 0 (lines.Held 5 pair)

abbrev line_loaded : Numbered
line_loaded = told 1 (lines.Done 0 (answers.Bytes (0 ∷ 0 ∷ [])))

abbrev line_past : Numbered
line_past = told 2 (lines.Past 5)

abbrev line_released : Numbered
line_released = told 3 lines.Released

abbrev line_without : Numbered
line_without = told 4 lines.NoHold

unfoldable on_values : Unit {0}
unfolding is_live live writable places stays is_written removes upgrades is_writable bytes after_all answer held_of is_hold hold_places hold_in grant_of is_release is_released chunks covers asked through_hold end_of CoversOp Came
on_values = tt

-- granted through the placement that is live, to the file's end
run_held : IsRunFrom 0 2 firsts (λ f. 0) nothing_yet places_of none_noted held_calls (line_held ∷ [])
unfolding on_values
run_held = one_else 0 2 firsts (λ f. 0) nothing_yet places_of none_noted held_calls [] (calls.Hold 0 0 modes.R) line_held refl (begun 0 2 firsts nothing_yet places_of none_noted held_calls) (inl (record {
  held = record { file = 0; chunk = 0; mode = modes.R };
  through = pair;
  end = 5;
  asks = refl;
  line = refl;
  live = refl;
  size = 5;
  sized = inl (record {
    seen = 0;
    since = λ m p lt a. absurd (omega (arith, lt));
    until = seen_until_next held_calls [] 0 0;
    known = omega arith;
    is = refl;
  });
  lesser = refl;
}))

elsewhere : (f : ℕ) → f ≢ 0 → loaded f ≡ nothing_yet f
elsewhere zero apart = absurd (apart refl)
elsewhere (suc f) apart = refl

run_loaded : IsRunFrom 0 2 firsts (λ f. 0) loaded places_of none_noted held_calls (line_held ∷ line_loaded ∷ [])
unfolding on_values
run_loaded = one_more 0 2 firsts (λ f. 0) nothing_yet loaded places_of none_noted held_calls (line_held ∷ []) (calls.Load 0 1 2) (record { file = 0; op = ops.Read 1 2 }) (via 0 1) line_loaded refl run_held refl
    (record { some = omega arith; grant = given; had = refl; goes = refl; covered = refl; within = omega arith }) refl elsewhere refl refl

run_past : IsRunFrom 0 2 firsts (λ f. 0) loaded places_of none_noted held_calls (line_held ∷ line_loaded ∷ line_past ∷ [])
unfolding on_values
run_past = one_else 0 2 firsts (λ f. 0) loaded places_of none_noted held_calls (line_held ∷ line_loaded ∷ []) (calls.Load 0 4 2) line_past refl run_loaded
    (inr (inr (inr (inr (inr (record { hold = 0; grant = given; to = record { file = 0; op = ops.Read 4 2 }; uses = refl; asks = refl; line = refl; had = refl; past = omega arith }))))))

run_released : IsRunFrom 0 2 firsts (λ f. 0) loaded places_of none_noted held_calls (line_held ∷ line_loaded ∷ line_past ∷ line_released ∷ [])
unfolding on_values
run_released = one_else 0 2 firsts (λ f. 0) loaded places_of none_noted held_calls (line_held ∷ line_loaded ∷ line_past ∷ []) (calls.Release 0) line_released refl run_past
    (inr (inl (record { hold = 0; grant = given; gives = refl; line = refl; had = refl })))

run_without : IsRunFrom 0 2 firsts (λ f. 0) loaded places_of none_noted held_calls (line_held ∷ line_loaded ∷ line_past ∷ line_released ∷ line_without ∷ [])
unfolding on_values
run_without = one_else 0 2 firsts (λ f. 0) loaded places_of none_noted held_calls (line_held ∷ line_loaded ∷ line_past ∷ line_released ∷ []) (calls.Load 0 0 1) line_without refl run_released
    (inr (inr (inr (inr (inl (record { hold = 0; uses = refl; line = refl; asked = record { at = 0; place = refl; before = omega arith }; none = refl }))))))

-- ---- what fits no run

-- a hold that was given back is none to go through
through_given_back : IsThroughHold 2 placed held_calls (line_held ∷ line_loaded ∷ line_past ∷ line_released ∷ []) 4 0 (ops.Read 0 1) (via 0 1) → ⊥
unfolding on_values
through_given_back t = none_is t.grant t.had

-- what goes through a hold ends within it
through_past_its_end : IsThroughHold 2 placed held_calls (line_held ∷ line_loaded ∷ []) 2 0 (ops.Read 4 2) (via 0 1) → ⊥
unfolding on_values
through_past_its_end t = let end : 5 ≡ t.grant.end = ap (λ (g : Grant). g.end) (some_is given t.grant t.had) in let within = t.within in omega (arith, end, within)

-- a hold doesn't end behind the file, which was never larger
held_beyond : IsGranted firsts nothing_yet places_of none_noted held_calls [] 0 (calls.Hold 0 0 modes.R) (told 0 (lines.Held 6 pair)) → ⊥
unfolding on_values
held_beyond g =
    let line : lines.Held 6 pair ≡ lines.Held g.end g.through = ap (λ (k : Numbered). k.line) g.line in
    let end : 6 ≡ g.end = cc in
    let w = was_only five [] held_calls [] g.held.file 0 g.size g.sized in
    let known = w.known in
    let none : w.seen ≡ 0 = omega (arith, known) in
    let small : g.size ≡ 5 = w.is ∙ ap (λ (n : ℕ). size five [] n) none in
    let lesser = g.lesser in omega (arith, end, small, lesser)

-- a truncation isn't refused where there is no lease
leased_by_none : IsLeased 0 (calls.Truncate 0 0) (told 0 (lines.Leased 0)) → ⊥
leased_by_none l =
    let line : lines.Leased 0 ≡ lines.Leased l.count = ap (λ (k : Numbered). k.line) l.line in
    let none : 0 ≡ l.count = cc in let some = l.some in omega (arith, none, some)
