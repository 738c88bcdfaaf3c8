-- One call more: the guest's run goes on.
use Rattle.std.proofs.Common.{◌≡◌, ◌≢◌, ◌⊎◌, inl, inr, ⊎_elim, ◌∙◌, ap, sym, refl, subst, ℕ, zero, suc, ◌+◌, ◌*◌, ◌/◌, ◌-◌, ◌<◌, ◌≤◌, ◌==◌, min, Bool, true, false, List, [], ◌∷◌, ◌++◌, length, get_or, slice_get, Option, Some, None, arith, length-append, if◌then◌else◌}
use Rattle.std.specs.Prelude.{All}
use Rattle.std.proofs.lemmas.Bool.{eq-eqb, ne_eqb, and_parts, and_from}
use Rattle.std.proofs.lemmas.List.{append-nil}
use Rattle.std.proofs.lemmas.Option.{slice_get-get_or}
use mathlib.Core.Logic.{dite}
use native.Mathlib.Decide.{ℕ_discrete}
use Rattle.plain_file.specs.declared.operations.Entry.{Entry}
use Rattle.plain_file.specs.declared.operations.First.{First}
use Rattle.plain_file.specs.declared.operations.Op.{Op}
use Rattle.plain_file.specs.declared.operations.Op.TheVariants as ops
use Rattle.plain_file.specs.declared.operations.Through.{Through}
use Rattle.plain_file.specs.declared.operations.Way.{Way}
use Rattle.plain_file.specs.declared.operations.Way.TheVariants as ways
use Rattle.plain_file.specs.File.{answer}
use Rattle.plain_file.specs.History.{bytes, size}
use Rattle.plain_file.specs.Board.{Note, FileView, BoardView, file_at, bytes_now}
use Rattle.plain_file.specs.Sound.{IsFresh}
use Rattle.page_map.specs.declared.ranges.LogEntry.{LogEntry}
use Rattle.page_map.specs.declared.pages.Mode.{Mode}
use Rattle.page_map.specs.declared.pages.Mode.TheVariants as modes
use Rattle.page_map.specs.Logs.{is_writable}
use Rattle.page_map.specs.Window.{range_size}
use Rattle.page_map.specs.Board.{log_at}
use Rattle.range_tree.specs.Ranges.{range_count}
use Rattle.range_tree.specs.Logs.{is_live}
use Rattle.dax_script.specs.declared.asks.Held.{Held as Wanted}
use Rattle.dax_script.specs.declared.scripts.Call.{Call}
use Rattle.dax_script.specs.declared.scripts.Call.TheVariants as calls
use Rattle.dax_script.specs.Asks.{chunk_size, held_by, hold_in}
use Rattle.transcript_text.specs.declared.transcripts.Line.{Line}
use Rattle.transcript_text.specs.declared.transcripts.Line.TheVariants as lines
use Rattle.transcript_text.specs.declared.transcripts.Numbered.{Numbered}
use Rattle.dax_audit.specs.Rules.{chunks, covers, pairs_of, is_truncating}
use Rattle.dax_audit.specs.Tables.{end_of}
use Rattle.guest_dax.specs.Stands.{Stand}
use Rattle.guest_io.specs.declared.calls.Done.{Done}
use Rattle.guest_io.specs.declared.calls.Held.{Held}
use Rattle.guest_io.specs.declared.guest.Granted.{Granted}
use Rattle.guest_io.specs.declared.guest.Holds.{Holds}
use Rattle.guest_io.specs.Calls.{Covers, first_chunk, last_chunk}
use Rattle.guest_io.specs.Notes.{KeepsNotes}
use Rattle.guest_io.specs.Going.{KeepsSizes}
use Rattle.guest_io.specs.Holds.{HasHolds, LeavesRest, granted_at, start_of}
use Rattle.guest_run.specs.Runs.{Asked, on_file, through_hold, asked, the_entry, FitsWindow, FitsWay, CoversOp, IsAskedBefore, IsSeenBefore, IsThroughHold, Came, WasSize, IsNotedSize, IsRunFrom, GoesOn, NotesGoOn}
use Rattle.guest_run.specs.Working.{IsCall, AreCalls, first_at, history_at, notes_at, CameBy, CameThrough, CameFrom, Asks, OnlyOthers, IsMade, IsHeldNow, Tells}
use Rattle.guest_run.proofs.Places.{none_is, some_is, within}
use Rattle.guest_run.proofs.Ways.{size_front, live_on}
use Rattle.guest_run.proofs.Guests.{IsElse, seen_on, noted_by, seen_all, one_else, one_more, was_next, noted_next, granted_next}
use Rattle.guest_run.proofs.Following.{grant_for, wanted_of, IsFollowed, granted_for_writing, hold_wants}

-- ---- ways

covered_one : (write : Bool) (log : List LogEntry) (off len : ℕ) (a : Through) → last_chunk off len ≡ first_chunk off → is_live write log (first_chunk off) a.entry a.upto ≡ true → covers write log (chunks off len) (pairs_of (ways.Via a None)) ≡ true
unfolding covers chunks pairs_of
covered_one write log off len a same live = rw (eq-eqb (off / chunk_size) ((off + len - 1) / chunk_size) (sym same)) (and_from _ _ live refl)

covered_two : (write : Bool) (log : List LogEntry) (off len : ℕ) (a b : Through) → last_chunk off len ≡ first_chunk off + 1 → is_live write log (first_chunk off) a.entry a.upto ≡ true → is_live write log (first_chunk off + 1) b.entry b.upto ≡ true → covers write log (chunks off len) (pairs_of (ways.Via a (Some b))) ≡ true
unfolding covers chunks pairs_of
covered_two write log off len a b next live live' = rw (ne_eqb (off / chunk_size) ((off + len - 1) / chunk_size) (λ e. absurd (omega (arith, e, next)))) (and_from _ _ live (and_from _ _ live' refl))

covered_read : (log : List LogEntry) (off len : ℕ) (a : Through) (b : Option Through) → Covers log off len modes.R a b → covers false log (chunks off len) (pairs_of (ways.Via a b)) ≡ true
unfolding is_writable
covered_read log off len a None (same, live) = covered_one false log off len a same live
covered_read log off len a (Some b) (next, live, live') = covered_two false log off len a b next live live'

covered_write : (log : List LogEntry) (off len : ℕ) (a : Through) (b : Option Through) → Covers log off len modes.W a b → covers true log (chunks off len) (pairs_of (ways.Via a b)) ≡ true
unfolding is_writable
covered_write log off len a None (same, live) = covered_one true log off len a same live
covered_write log off len a (Some b) (next, live, live') = covered_two true log off len a b next live live'

-- a way of the guest's calls is one of a transcript
fits : (keeps : Type 0) (ranges : ℕ) (log : List LogEntry) (old new : FileView) (seen : ℕ → Type 0) (op : Op) (place : ℕ) (way : Way) → ((n : ℕ) → length old.history ≤ n → seen n) → keeps → CameBy keeps ranges log old new op place way → FitsWay ranges new.first new.history log seen place op way
unfolding CameBy FitsWindow
fits keeps ranges log old new seen (ops.Read off len) place ways.Req all kept none = record { without = λ e. refl; windowed = λ some. absurd (omega (arith, none, some)) }
fits keeps ranges log old new seen (ops.Read off len) place (ways.ReqSaw z) all kept is = absurd is
fits keeps ranges log old new seen (ops.Read off len) place (ways.Via a b) all kept (some, live) = record { without = λ e. absurd (omega (arith, e, some)); windowed = λ k. covered_read log off len a b live }
fits keeps ranges log old new seen (ops.Write off xs) place ways.Req all kept none = record { without = λ e. refl; windowed = λ some. absurd (omega (arith, none, some)) }
fits keeps ranges log old new seen (ops.Write off xs) place (ways.ReqSaw z) all kept (some, low, fresh) = record { without = λ e. absurd (omega (arith, e, some)); windowed = λ k. (low, (let f = fresh kept in (f.0, all f.0 f.1, f.2, sym f.4))) }
fits keeps ranges log old new seen (ops.Write off xs) place (ways.Via a b) all kept (some, live, end) = record { without = λ e. absurd (omega (arith, e, some)); windowed = λ k. (end, covered_write log off (length xs) a b live) }
fits keeps ranges log old new seen (ops.Truncate to) place way all kept is = record { without = λ e. is; windowed = λ k. is }
fits keeps ranges log old new seen ops.Size place way all kept is = record { without = λ e. is; windowed = λ k. is }

-- ---- histories that go on

other_at : (guest : ℕ) (xs : List Entry) (p : ℕ) (e : Entry) → All (λ e. e.guest ≢ guest) xs → slice_get xs p ≡ Some e → e.guest ≢ guest
other_at guest xs p e all at =
    let lt = within xs p e at in
    let is : get_or xs p e ≡ e = some_is (get_or xs p e) e (sym (slice_get-get_or xs p e lt) ∙ at) in
    subst (λ (x : Entry). x.guest ≢ guest) is (all p e lt)

ours_before : (guest : ℕ) (h more : List Entry) (p : ℕ) (e : Entry) → All (λ e. e.guest ≢ guest) more → slice_get (h ++ more) p ≡ Some e → e.guest ≡ guest → p < length h
ours_before guest [] more p e others at by = absurd (other_at guest more p e others at by)
ours_before guest (x ∷ h) more zero e others at by = omega arith
ours_before guest (x ∷ h) more (suc p) e others at by = let k = ours_before guest h more p e others at by in omega (arith, k)

goes_by : (guest : ℕ) (h more : List Entry) → All (λ e. e.guest ≢ guest) more → GoesOn guest h (h ++ more)
goes_by guest h more others = (more, refl, λ p e at by. ours_before guest h more p e others at by)

goes_same : (guest : ℕ) (h : List Entry) → GoesOn guest h h
goes_same guest h = ([], sym (append-nil h), λ p e at by. within h p e at)

-- the histories in which one file's is this one
abbrev pub with_history : (ℕ → List Entry) → ℕ → List Entry → ℕ → List Entry
with_history h f hs g = if g == f then hs else h g

at_file : (h : ℕ → List Entry) (f : ℕ) (hs : List Entry) → with_history h f hs f ≡ hs
at_file h f hs = ap (λ (b : Bool). if b then hs else h f) (eq-eqb f f refl)

at_other : (h : ℕ → List Entry) (f g : ℕ) (hs : List Entry) → g ≢ f → with_history h f hs g ≡ h g
at_other h f g hs apart = ap (λ (b : Bool). if b then hs else h g) (ne_eqb g f apart)

goes_one : (guest : ℕ) (h : ℕ → List Entry) (f : ℕ) (more : List Entry) → All (λ e. e.guest ≢ guest) more → (g : ℕ) → GoesOn guest (h g) (with_history h f (h f ++ more) g)
goes_one guest h f more others g = dite (ℕ_discrete g f)
    (λ e. subst (λ (x : ℕ). GoesOn guest (h x) (with_history h f (h f ++ more) x)) (sym e) (subst (GoesOn guest (h f)) (sym (at_file h f (h f ++ more))) (goes_by guest (h f) more others)))
    (λ apart. subst (GoesOn guest (h g)) (sym (at_other h f g (h f ++ more) apart)) (goes_same guest (h g)))

-- ---- sizes that are noted

there_shared : (plain : Bool) (notes : List Note) (k : ℕ) (n : Note) → slice_get (if plain then [] else notes) k ≡ Some n → (plain ≡ false) × (slice_get notes k ≡ Some n)
there_shared true notes k n at = absurd (none_is n at)
there_shared false notes k n at = (refl, at)

-- what counts as noted is so on a shared board alone
noted_there : (v : BoardView) (f k : ℕ) (n : Note) → slice_get (notes_at v f) k ≡ Some n → (v.plain ≡ false) × (slice_get (file_at v f).notes k ≡ Some n)
noted_there v f = there_shared v.plain (file_at v f).notes

shared_notes : (v : BoardView) (f : ℕ) → v.plain ≡ false → notes_at v f ≡ (file_at v f).notes
shared_notes v f shared = ap (λ (b : Bool). if b then [] else (file_at v f).notes) shared

-- a file that stays has the same sizes noted
same_noted : (v w : BoardView) (f : ℕ) → w.plain ≡ v.plain → file_at w f ≡ file_at v f → notes_at w f ≡ notes_at v f
same_noted v w f plain same = λ i. if plain i then [] else (same i).notes

-- what is kept of a file's notes
notes_go_on : (v w : BoardView) (first : First) (f : ℕ) → w.plain ≡ v.plain → first_at w f ≡ first → KeepsNotes (file_at v f) (file_at w f) → NotesGoOn first (history_at w f) (notes_at v f) (notes_at w f)
notes_go_on v w first f plain is keeps = subst (λ (y : First). NotesGoOn y (history_at w f) (notes_at v f) (notes_at w f)) is (λ k n at none.
    let there = noted_there v f k n at in
    ⊎_elim
    (λ (stays : slice_get (file_at w f).notes k ≡ Some n). inl (ap (λ (ns : List Note). slice_get ns k) (shared_notes w f (plain ∙ there.0)) ∙ stays))
    (λ (fresh : IsFresh (first_at w f) (history_at w f) n.lower (length (history_at w f)) n.size). inr fresh)
    (keeps k n there.1 none))

-- the notes without those of one file
abbrev pub without_notes : (ℕ → List Note) → ℕ → ℕ → List Note
without_notes notes f g = if g == f then [] else notes g

notes_gone : (notes : ℕ → List Note) (f : ℕ) → without_notes notes f f ≡ []
notes_gone notes f = ap (λ (b : Bool). if b then [] else notes f) (eq-eqb f f refl)

notes_else : (notes : ℕ → List Note) (f g : ℕ) → g ≢ f → without_notes notes f g ≡ notes g
notes_else notes f g apart = ap (λ (b : Bool). if b then [] else notes g) (ne_eqb g f apart)

-- and so are among them
notes_among : (notes : ℕ → List Note) (f g k : ℕ) (n : Note) → slice_get (without_notes notes f g) k ≡ Some n → slice_get (notes g) k ≡ Some n
notes_among notes f g k n at = (there_shared (g == f) (notes g) k n at).1

-- a size that a file had up to the place of its newest entry was so before that entry
fresh_before : (first : First) (past : List Entry) (e : Entry) (lower place z : ℕ) → length (past ++ e ∷ []) ≡ place + 1 → IsFresh first (past ++ e ∷ []) lower place z → IsFresh first past lower (length past) z
fresh_before first past e lower place z at (n, low, high, known, is) =
    let end : length past ≡ place = omega (arith, at, length-append past (e ∷ [])) in
    let upto : n ≤ length past = omega (arith, high, end) in
    (n, low, upto, omega arith, is ∙ size_front first past (e ∷ []) n upto)

-- ---- through a hold

-- what is live for writing is live
live_any : (write : Bool) (log : List LogEntry) (chunk k m : ℕ) → is_live write log chunk k m ≡ true → is_live false log chunk k m ≡ true
unfolding is_live
live_any write log chunk k m is = and_from _ _ (and_parts _ _ is).0 refl

-- bytes within one chunk
covered_within : (write : Bool) (log : List LogEntry) (chunk off len : ℕ) (a : Through) → 0 < len → off + len ≤ range_size → is_live write log chunk a.entry a.upto ≡ true → covers write log (chunks (range_size * chunk + off) len) (a ∷ []) ≡ true
unfolding pairs_of
covered_within write log chunk off len a some few live =
    let first : first_chunk (range_size * chunk + off) ≡ chunk = omega (arith, some, few) in
    let last : last_chunk (range_size * chunk + off) len ≡ chunk = omega (arith, some, few) in
    covered_one write log (range_size * chunk + off) len a (last ∙ sym first) (ap (λ (x : ℕ). is_live write log x a.entry a.upto) first ∙ live)

asked_through : (o : Option Wanted) (g : Granted) (op : ℕ → Op) → o ≡ Some (wanted_of g) → through_hold o op ≡ Some (record { file = g.file; op = op (start_of g) })
unfolding through_hold
asked_through o g op e = ap (λ (x : Option Wanted). through_hold x op) e ∙ ap (λ (x : ℕ). on_file g.file (op x)) (omega arith)

-- what the holds say that a call asks is what the lines say
pub asks_so : (cs : List Call) (ls : List Numbered) (h : Holds) (c : Call) (to : Asked) → IsFollowed cs ls h → Asks h c to → asked cs c ≡ Some to
unfolding Asks asked
asks_so cs ls h (calls.Read file off len) to f e = ap Some (sym e)
asks_so cs ls h (calls.Write file off xs) to f e = ap Some (sym e)
asks_so cs ls h (calls.Fill file off len byte) to f e = ap Some (sym e)
asks_so cs ls h (calls.Size file) to f e = ap Some (sym e)
asks_so cs ls h (calls.Truncate file size) to f e = ap Some (sym e)
asks_so cs ls h (calls.Hold file chunk mode) to f e = absurd e
asks_so cs ls h (calls.Load hold off len) to f (g, at, e) = asked_through (held_by cs hold) g (λ start. ops.Read (start + off) len) (f.each hold g at).by ∙ ap Some (sym e)
asks_so cs ls h (calls.Store hold off xs) to f (g, at, e) = asked_through (held_by cs hold) g (λ start. ops.Write (start + off) xs) (f.each hold g at).by ∙ ap Some (sym e)
asks_so cs ls h (calls.Release hold) to f e = absurd e

-- a hold that a call uses was asked for before
asked_before : (files ranges : ℕ) (cs : List Call) (n hold : ℕ) (c : Call) → hold_in c ≡ Some hold → IsCall files ranges cs n c → IsAskedBefore cs n hold
unfolding hold_in IsCall
asked_before files ranges cs n hold (calls.Read file off len) e is = absurd (none_is hold e)
asked_before files ranges cs n hold (calls.Write file off xs) e is = absurd (none_is hold e)
asked_before files ranges cs n hold (calls.Fill file off len byte) e is = absurd (none_is hold e)
asked_before files ranges cs n hold (calls.Size file) e is = absurd (none_is hold e)
asked_before files ranges cs n hold (calls.Truncate file size) e is = absurd (none_is hold e)
asked_before files ranges cs n hold (calls.Hold file chunk mode) e is = absurd (none_is hold e)
asked_before files ranges cs n hold (calls.Load k off len) e is = subst (IsAskedBefore cs n) (some_is k hold e) is.0
asked_before files ranges cs n hold (calls.Store k off xs) e is = subst (IsAskedBefore cs n) (some_is k hold e) is.0
asked_before files ranges cs n hold (calls.Release k) e is = subst (IsAskedBefore cs n) (some_is k hold e) is

truncates : (c : Call) (file size : ℕ) → c ≡ calls.Truncate file size → is_truncating c ≡ true
unfolding is_truncating
truncates c file size e = ap is_truncating e

writable_mode : (mode : Mode) → mode ≡ modes.W → is_writable mode ≡ true
unfolding is_writable
writable_mode mode e = ap is_writable e

-- where a chunk ends
both_ways : (chunk : ℕ) → range_size * (chunk + 1) ≡ (chunk + 1) * chunk_size
both_ways chunk = omega arith

-- ---- one more call

module _ (files ranges : ℕ) (guest : ℕ) (first : ℕ → First) (from : ℕ → ℕ) (s t : Stand) (h k : Holds) (cs : List Call) (ls : List Numbered) (c : Call)
    (own : s.files.guest ≡ guest) (honest : s.wire.honest ≡ true) (count : range_count s.map ≡ ranges) (firsts : (f : ℕ) → first_at s.files f ≡ first f) (sizes : KeepsSizes s.files) (rest : LeavesRest s t) (are : AreCalls files ranges cs) (has : HasHolds s h)
    (follows : IsFollowed cs ls h) (made : slice_get cs (length ls) ≡ Some c) (run : IsRunFrom guest ranges first from (history_at s.files) (log_at s.map) (notes_at s.files) cs ls) where
  abbrev the_line : Line → Numbered
  the_line l = record { call = length ls; line = l }

  -- a way by no hold
  by_itself : (to : Asked) (d : Done) (way : Way) → CameBy (KeepsSizes s.files) (range_count s.map) (log_at t.map to.file) (file_at s.files to.file) (file_at t.files to.file) to.op d.place way
      → FitsWay ranges (first to.file) (history_at t.files to.file) (log_at t.map to.file) (IsSeenBefore cs ls to.file (length ls)) d.place to.op way
  by_itself to d way came =
      let f = to.file in
      let low : (p : ℕ) → length (history_at s.files f) ≤ p → IsSeenBefore cs ls f (length ls) p = λ p le m q lt placed. (let below = seen_all guest ranges first from (history_at s.files) (log_at s.map) (notes_at s.files) cs ls f (length ls) run m q lt placed in omega (arith, below, le)) in
      subst (λ (z : ℕ × First). FitsWay z.0 z.1 (history_at t.files f) (log_at t.map f) (IsSeenBefore cs ls f (length ls)) d.place to.op way) (λ i. (count i, (rest.files.firsts f ∙ firsts f) i))
      (fits (KeepsSizes s.files) (range_count s.map) (log_at t.map f) (file_at s.files f) (file_at t.files f) (IsSeenBefore cs ls f (length ls)) to.op d.place way low sizes came)

  -- the pair of a hold is live in what is seen of the log now
  live_now : (hold : ℕ) (g : Granted) → granted_at h hold ≡ Some g → is_live (is_writable g.mode) (log_at t.map g.file) g.chunk g.pinned.through.entry g.pinned.through.upto ≡ true
  live_now hold g at =
      let a = g.pinned.through in
      let more = rest.map.logs g.file in
      ap (λ (xs : List LogEntry). is_live (is_writable g.mode) xs g.chunk a.entry a.upto) more.1 ∙ live_on (is_writable g.mode) (log_at s.map g.file) more.0 g.chunk a.entry a.upto (has.each hold g at).through

  by_hold : (hold : ℕ) (g : Granted) (to : Asked) (op : Op) (way : Way) → granted_at h hold ≡ Some g → to ≡ record { file = g.file; op = op } → CameThrough h hold to.op way → CoversOp (log_at t.map g.file) op (g.pinned.through ∷ [])
      → IsThroughHold ranges (log_at t.map to.file) cs ls (length ls) hold to.op way
  by_hold hold g to op way at e x covered =
      let same : x.granted ≡ g = some_is x.granted g (sym x.had ∙ at) in
      let low = (has.each hold g at).range in
      record {
        some = omega (arith, low, count);
        grant = grant_for g;
        had = (follows.each hold g at).had;
        goes = x.way ∙ ap (λ (y : Granted). ways.Via y.pinned.through None) same;
        covered = subst (λ (y : Asked). CoversOp (log_at t.map y.file) y.op (g.pinned.through ∷ [])) (sym e) covered;
        within = subst (λ (y : Granted). end_of to.op ≤ y.end) same x.within;
      }

  came_so : (d : Call) (to : Asked) (x : Done) (way : Way) → Asks h d to → IsCall files ranges cs (length ls) d → CameFrom s h to x way t (hold_in d) → Came ranges (first to.file) (history_at t.files to.file) (log_at t.map to.file) cs ls (length ls) (hold_in d) x.place to way
  unfolding Asks IsCall CameFrom Came CoversOp hold_in
  came_so (calls.Read file off len) to x way e is came = by_itself to x way came
  came_so (calls.Write file off xs) to x way e is came = by_itself to x way came
  came_so (calls.Fill file off len byte) to x way e is came = by_itself to x way came
  came_so (calls.Size file) to x way e is came = by_itself to x way came
  came_so (calls.Truncate file size) to x way e is came = by_itself to x way came
  came_so (calls.Hold file chunk mode) to x way e is came = absurd e
  came_so (calls.Load hold off len) to x way (g, at, e) is came = by_hold hold g to (ops.Read (start_of g + off) len) way at e came
      (covered_within false (log_at t.map g.file) g.chunk off len g.pinned.through is.1.0 is.2 (live_any (is_writable g.mode) (log_at t.map g.file) g.chunk g.pinned.through.entry g.pinned.through.upto (live_now hold g at)))
  came_so (calls.Store hold off xs) to x way (g, at, e) is came = by_hold hold g to (ops.Write (start_of g + off) xs) way at e came
      (covered_within true (log_at t.map g.file) g.chunk off (length xs) g.pinned.through is.2.0 is.3
      (ap (λ (b : Bool). is_live b (log_at t.map g.file) g.chunk g.pinned.through.entry g.pinned.through.upto) (sym (writable_mode g.mode (granted_for_writing cs ls h hold g follows is.1 at))) ∙ live_now hold g at))
  came_so (calls.Release hold) to x way e is came = absurd e

  -- what was made is of others
  theirs : (more : List Entry) → All (λ e. e.guest ≢ s.files.guest) more → All (λ e. e.guest ≢ guest) more
  theirs more others = subst (λ (g : ℕ). All (λ e. e.guest ≢ g) more) own others

  -- the notes of a file that a call is done in are settled right before its entry, and those of the others stay
  notes_before : (d : Done) (m : IsMade s h (length ls) c d t) (g : ℕ) → NotesGoOn (first g) (with_history (history_at s.files) m.to.file (history_at s.files m.to.file ++ m.directs.done.more) g) (notes_at s.files g) (without_notes (notes_at t.files) m.to.file g)
  notes_before d m g =
      let f = m.to.file in
      let y = m.directs.done in
      let past = history_at s.files f ++ y.more in
      let mid = with_history (history_at s.files) f past in
      let its = without_notes (notes_at t.files) f in
      dite (ℕ_discrete g f)
      (λ e. subst (λ (x : ℕ). NotesGoOn (first x) (mid x) (notes_at s.files x) (its x)) (sym e)
      (subst (λ (hs : List Entry). NotesGoOn (first f) hs (notes_at s.files f) (its f)) (sym (at_file (history_at s.files) f past)) (λ k n at none.
      let there = noted_there s.files f k n at in
      let closed = m.directs.closes there.0 k n there.1 none in
      let entry = the_entry s.files.guest (length ls) m.to.op m.way in
      inr (fresh_before (first f) past entry n.lower closed.0 n.size (ap (λ (hs : List Entry). length hs) (sym y.history) ∙ closed.1)
      (subst (λ (z : First × List Entry). IsFresh z.0 z.1 n.lower closed.0 n.size) (λ i. ((rest.files.firsts f ∙ firsts f) i, y.history i)) closed.2)))))
      (λ apart. subst (λ (ns : List Note). NotesGoOn (first g) (mid g) (notes_at s.files g) ns) (sym (notes_else (notes_at t.files) f g apart ∙ same_noted s.files t.files g rest.files.plain (m.directs.others g apart))) (λ k n at none. inl at))

  made_run : (d : Done) → IsMade s h (length ls) c d t → IsRunFrom guest ranges first from (history_at t.files) (log_at t.map) (notes_at t.files) cs (ls ++ the_line (lines.Done d.place d.answer) ∷ [])
  made_run d m =
      let f = m.to.file in
      let y = m.directs.done in
      let past = history_at s.files f ++ y.more in
      let mid = with_history (history_at s.files) f past in
      let here : mid f ≡ past = at_file (history_at s.files) f past in
      let place : d.place ≡ length (mid f) = y.place ∙ ap length (sym here) in
      let told : d.answer ≡ answer (bytes (first f) (mid f) (length (mid f))) m.to.op = y.answered ∙ (λ i. answer (bytes (firsts f i) (sym here i) (length (sym here i))) m.to.op) in
      let its = without_notes (notes_at t.files) f in
      noted_by guest ranges first from (history_at t.files) (log_at t.map) its (notes_at t.files) cs (ls ++ the_line (lines.Done d.place d.answer) ∷ []) (notes_among (notes_at t.files) f)
      (one_more guest ranges first from mid (history_at t.files) (log_at t.map) its cs ls c m.to m.way (the_line (lines.Done d.place d.answer)) made
      (seen_on guest ranges first from (history_at s.files) mid (log_at s.map) (log_at t.map) (notes_at s.files) its cs ls (goes_one guest (history_at s.files) f y.more (theirs y.more y.others)) rest.map.logs (notes_before d m) run)
      (asks_so cs ls h c m.to follows m.asks)
      (subst (λ (p : ℕ). Came ranges (first f) (history_at t.files f) (log_at t.map f) cs ls (length ls) (hold_in c) p m.to m.way) place (came_so c m.to d m.way m.asks (are (length ls) c made) m.came))
      (y.history ∙ (λ i. sym here i ++ the_entry (own i) (length ls) m.to.op m.way ∷ []))
      (λ g apart. ap (λ (v : FileView). v.history) (m.directs.others g apart) ∙ sym (at_other (history_at s.files) f g past apart))
      (notes_gone (notes_at t.files) f)
      (λ i. the_line (lines.Done (place i) (told i))))

  -- a line that has no place, and what others did
  else_run : (l : Line) → OnlyOthers s.files t.files → IsElse ranges first (history_at t.files) (log_at t.map) (notes_at t.files) cs ls (length ls) c (the_line l) → IsRunFrom guest ranges first from (history_at t.files) (log_at t.map) (notes_at t.files) cs (ls ++ the_line l ∷ [])
  else_run l others is = one_else guest ranges first from (history_at t.files) (log_at t.map) (notes_at t.files) cs ls c (the_line l) made
      (seen_on guest ranges first from (history_at s.files) (history_at t.files) (log_at s.map) (log_at t.map) (notes_at s.files) (notes_at t.files) cs ls (λ f. subst (λ (g : ℕ). GoesOn g (history_at s.files f) (history_at t.files f)) own (others f).0) rest.map.logs
      (λ f. notes_go_on s.files t.files (first f) f rest.files.plain (rest.files.firsts f ∙ firsts f) (others f).1) run) is

  -- the size of a plain board's file is the file's
  was_held : (held : Held) (x : IsHeldNow s h c held t k) → s.files.plain ≡ true → WasSize (first x.file) (history_at t.files x.file) cs ls x.file (length ls) x.granted.noted
  unfolding bytes_now
  was_held held x plain =
      let a = x.granted in
      let f = x.file in
      let seen = length (history_at s.files f) in
      let more = (x.others f).0 in
      let longer : length (history_at t.files f) ≡ length (history_at s.files f ++ more.0) = ap (λ (xs : List Entry). length xs) more.1 in
      let same : size (first f) (history_at t.files f) seen ≡ a.noted = ap (λ (xs : List Entry). size (first f) xs seen) more.1
      ∙ (size_front (first f) (history_at s.files f) more.0 seen (omega arith) ∙ (ap (λ (y : First). size y (history_at s.files f) seen) (sym (firsts f)) ∙ sym (a.plain plain))) in
      was_next guest ranges first from (history_at s.files) (history_at t.files) (log_at s.map) (notes_at s.files) cs ls f seen a.noted run (omega arith) (omega (arith, longer, length-append (history_at s.files f) more.0)) (sym same)

  -- that of a shared board's is noted
  noted_held : (held : Held) (x : IsHeldNow s h c held t k) → s.files.plain ≡ false → IsNotedSize (notes_at t.files x.file) cs ls x.file (length ls) x.granted.noted
  noted_held held x shared =
      let a = x.granted in
      let f = x.file in
      let lower = length (history_at s.files f) in
      let noted = a.open_note honest (sizes shared) in
      noted_next guest ranges first from (history_at s.files) (log_at s.map) (notes_at s.files) cs ls f a.noted noted.0 (record { size = a.noted; lower = lower; upper = None }) (notes_at t.files f) run
      (ap (λ (ns : List Note). slice_get ns noted.0) (shared_notes t.files f (rest.files.plain ∙ shared)) ∙ noted.1) refl refl (omega arith)

  held_run : (held : Held) → IsHeldNow s h c held t k → IsRunFrom guest ranges first from (history_at t.files) (log_at t.map) (notes_at t.files) cs (ls ++ the_line (lines.Held held.end held.through) ∷ [])
  held_run held x =
      let a = x.granted in
      let f = x.file in
      let end : held.end ≡ min ((x.chunk + 1) * chunk_size) a.noted = a.lesser ∙ (λ i. min (both_ways x.chunk i) a.noted) in
      else_run (lines.Held held.end held.through) x.others (inl (granted_next first (history_at t.files) (log_at t.map) (notes_at t.files) cs ls c (record { file = f; chunk = x.chunk; mode = x.mode }) held.end held.through a.noted
      (hold_wants c f x.chunk x.mode x.asks) a.live (sized s.files.plain refl) end))
    where
      sized : (plain : Bool) → s.files.plain ≡ plain → WasSize (first x.file) (history_at t.files x.file) cs ls x.file (length ls) x.granted.noted ⊎ IsNotedSize (notes_at t.files x.file) cs ls x.file (length ls) x.granted.noted
      sized true e = inl (was_held held x e)
      sized false e = inr (noted_held held x e)

  told_run : (l : Line) → Tells s h (length ls) c l t k → IsRunFrom guest ranges first from (history_at t.files) (log_at t.map) (notes_at t.files) cs (ls ++ the_line l ∷ [])
  unfolding Tells
  told_run (lines.Done place answer) x = made_run (record { place = place; answer = answer }) x.0
  told_run (lines.Held end through) x = held_run (record { end = end; through = through }) x
  told_run lines.Released x = else_run lines.Released x.others (inr (inl (record { hold = x.hold; grant = grant_for x.granted; gives = x.asks; line = refl; had = (follows.each x.hold x.granted x.had).had })))
  told_run (lines.Busy letters) x = else_run (lines.Busy letters) x.others (inr (inr (inl (record { letters = letters; takes = x.takes; line = refl; some = subst (λ (r : ℕ). 0 < r) count x.some; each = x.each ∙ count }))))
  told_run (lines.Leased number) x = else_run (lines.Leased number) x.others (inr (inr (inr (inl (record { count = number; truncates = truncates c x.file x.size x.asks; line = refl; some = x.some })))))
  told_run lines.NoHold x = else_run lines.NoHold x.others (inr (inr (inr (inr (inl (record { hold = x.hold; uses = x.uses; line = refl; asked = asked_before files ranges cs (length ls) x.hold c x.uses (are (length ls) c made); none = follows.none x.hold x.none }))))))
  told_run (lines.Past end) x = else_run (lines.Past end) x.others (inr (inr (inr (inr (inr (record { hold = x.hold; grant = grant_for x.granted; to = x.to; uses = x.uses; asks = asks_so cs ls h c x.to follows x.asks; line = ap (λ (z : ℕ). the_line (lines.Past z)) x.end; had = (follows.each x.hold x.granted x.had).had; past = x.past }))))))

-- whatever the line of the next call tells, the run goes on by it
pub step_run : (files ranges : ℕ) (guest : ℕ) (first : ℕ → First) (from : ℕ → ℕ) (s t : Stand) (h k : Holds) (cs : List Call) (ls : List Numbered) (n : ℕ) (c : Call) (l : Line)
    → s.files.guest ≡ guest → s.wire.honest ≡ true → range_count s.map ≡ ranges → ((f : ℕ) → first_at s.files f ≡ first f) → KeepsSizes s.files → LeavesRest s t → AreCalls files ranges cs → HasHolds s h → IsFollowed cs ls h → n ≡ length ls → slice_get cs n ≡ Some c
    → IsRunFrom guest ranges first from (history_at s.files) (log_at s.map) (notes_at s.files) cs ls → Tells s h n c l t k → IsRunFrom guest ranges first from (history_at t.files) (log_at t.map) (notes_at t.files) cs (ls ++ record { call = n; line = l } ∷ [])
step_run files ranges guest first from s t h k cs ls n c l own honest count firsts sizes rest are has follows number =
    subst (λ (m : ℕ). slice_get cs m ≡ Some c → IsRunFrom guest ranges first from (history_at s.files) (log_at s.map) (notes_at s.files) cs ls → Tells s h m c l t k → IsRunFrom guest ranges first from (history_at t.files) (log_at t.map) (notes_at t.files) cs (ls ++ record { call = m; line = l } ∷ [])) (sym number)
    (λ made run x. told_run files ranges guest first from s t h k cs ls c own honest count firsts sizes rest are has follows made run l x)
