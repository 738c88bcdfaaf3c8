-- The way of an entry by the tables.
use Rattle.std.proofs.Common.{◌≡◌, ◌∙◌, ap, sym, refl, subst, ℕ, zero, suc, ◌+◌, ◌-◌, ◌<◌, ◌⊎◌, inl, inr, true, false, ◌&&◌, ◌==◌, eqb, ltb, leb, List, length, zip, slice_get, Option, Some, None, option_map, true≢false, arith}
use Rattle.std.proofs.lemmas.Option.{slice_get-map, slice_get_within, get_or_from_slice_get}
use Rattle.std.proofs.lemmas.Bool.{cases_lt, and_parts, eqb-true}
use Rattle.std.specs.List.{range_with_len}
use Rattle.plain_file.specs.declared.operations.Way.{Way}
use Rattle.plain_file.specs.declared.operations.Way.TheVariants as ways
use Rattle.plain_file.specs.History.{size}
use Rattle.page_map.specs.declared.ranges.LogEntry.{LogEntry}
use Rattle.dax_script.specs.declared.scripts.Call.{Call}
use Rattle.dax_script.specs.declared.scripts.Call.TheVariants as calls
use Rattle.dax_script.specs.declared.scripts.Script.{Script}
use Rattle.dax_script.specs.declared.asks.Target.{Target}
use Rattle.dax_script.specs.Asks.{target, calls_of, call_at}
use Rattle.dax_audit.specs.declared.looks.Look.{Look}
use Rattle.dax_audit.specs.declared.replays.Replay.{Replay}
use Rattle.transcript_text.specs.declared.transcripts.EntryLine.{EntryLine}
use Rattle.transcript_text.specs.declared.transcripts.Line.{Line}
use Rattle.transcript_text.specs.declared.transcripts.Numbered.{Numbered}
use Rattle.transcript_text.specs.declared.transcripts.Transcript.{Transcript}
use Rattle.dax_audit.specs.Guests.{place_of, seen_before, seen_at, done_by}
use Rattle.dax_audit.specs.Rules.{Past, pasts, past_at, lines_of, line_at, entry_at, is_done_at, is_fresh, write_way, windowed, came_right, is_req, rises, rises_at}
use Rattle.dax_audit.specs.Tables.{AreReplays, AreLooks, AreNamed, sizes_in, seen_in, fresh_in, write_by, windowed_by, log_in}
use Rattle.dax_audit.proofs.Lines.{at_line, at_entry}
use Rattle.dax_audit.proofs.Singles.{done_some, done_no_call, done_no_line}
use Rattle.dax_audit.proofs.Tabled.{past_is, sizes_there, sizes_many, any_range}
use Rattle.dax_audit.proofs.Looked.{length_zip}

pub cases_option : {A : Type 0} (o : Option A) → ((x : A) × (o ≡ Some x)) ⊎ (o ≡ None)
cases_option None = inr refl
cases_option (Some x) = inl (x, refl)

pub get_number : (a n i : ℕ) → i < n → slice_get (range_with_len a n) i ≡ Some (a + i)
get_number a zero i h = absurd (omega arith)
get_number a (suc n) zero h = let e : a ≡ a + zero = omega arith in ap Some e
get_number a (suc n) (suc i) h = let e : a + 1 + i ≡ a + suc i = omega arith in get_number (a + 1) n i (omega arith) ∙ ap Some e

-- ---- what was seen before a call

pub seen_there : (s : Script) (t : Transcript) (looks : List Look) → AreLooks s t looks → (guest call : ℕ) (c : Call) (l : Line) → line_at t guest call ≡ Some l → slice_get (calls_of s guest) call ≡ Some c →
    seen_in looks guest call ≡ seen_at (calls_of s guest) (lines_of t guest) call
unfolding seen_in
seen_there s t looks tables guest call c l line at =
    let there = at_line t guest call l line in
    let part = there.0 in
    let row = tables.each guest part there.2 in
    let own : lines_of t guest ≡ part.lines = rw there.2 refl in
    let few = slice_get_within (calls_of s guest) call c at in
    let many = slice_get_within part.lines call there.1 there.3 in
    let n = length (zip (calls_of s guest) part.lines) in
    let within : call < n = omega (arith, length_zip (calls_of s guest) part.lines) in
    let number : slice_get (range_with_len 0 n) call ≡ Some call = get_number 0 n call within ∙ (let e : 0 + call ≡ call = omega arith in ap Some e) in
    let cell : slice_get row.0.seen.items call ≡ Some (seen_at (calls_of s guest) part.lines call) =
    ap (λ (xs : List ℕ). slice_get xs call) row.2.seen ∙ slice_get-map (seen_at (calls_of s guest) part.lines) (range_with_len 0 n) call ∙ ap (option_map (seen_at (calls_of s guest) part.lines)) number in
    rw (own, row.1, cell) refl

pub seen_aim : (cs : List Call) (ls : List Numbered) (call : ℕ) (c : Call) (to : Target) → slice_get cs call ≡ Some c → target cs c ≡ Some to → seen_at cs ls call ≡ seen_before cs ls to.file call
unfolding seen_at
seen_aim cs ls call c to at on = rw (at, on) refl

-- ---- a call that is done at a place

pub record IsDone (cs : List Call) (ls : List Numbered) (file call place : ℕ) : Type 0 where
  pub asked : Call
  pub line : Numbered
  pub to : Target
  pub at : slice_get cs call ≡ Some asked
  pub there : slice_get ls call ≡ Some line
  pub aimed : target cs asked ≡ Some to
  pub on_file : to.file ≡ file
  pub done : place_of line.line ≡ Some place

done_parts : (to : Option Target) (at : Option ℕ) (file place : ℕ) → done_by to at file place ≡ true → (x : Target) × (to ≡ Some x) × (x.file ≡ file) × (at ≡ Some place)
unfolding done_by
done_parts None at file place h = absurd (true≢false (sym h))
done_parts (Some x) None file place h = absurd (true≢false (sym h))
done_parts (Some x) (Some p) file place h = let both = and_parts (eqb x.file file) (eqb p place) h in (x, refl, eqb-true x.file file both.0, ap Some (eqb-true p place both.1))

pub is_done : (cs : List Call) (ls : List Numbered) (file call place : ℕ) → is_done_at cs ls file call place ≡ true → IsDone cs ls file call place
is_done cs ls file call place h = elim (cases_option (slice_get cs call)) [
  | inr none ↦ absurd (true≢false (sym h ∙ done_no_call cs ls file call place none))
  | inl c ↦ elim (cases_option (slice_get ls call)) [
    | inr none ↦ absurd (true≢false (sym h ∙ done_no_line cs ls file call place none))
    | inl n ↦
        let parts = done_parts (target cs c.0) (place_of n.0.line) file place (sym (done_some cs ls file call place c.0 n.0 c.1 n.1) ∙ h) in
        record { asked = c.0; line = n.0; to = parts.0; at = c.1; there = n.1; aimed = parts.1; on_file = parts.2; done = parts.3 }
  ]
]

-- ---- sizes by the table

fresh_same : (h : Past) (sizes : List ℕ) (z low high : ℕ) → ((k : ℕ) → k < length sizes → slice_get sizes k ≡ Some (size h.first h.history k)) → high < length sizes → is_fresh h z low high ≡ fresh_in sizes z low high
unfolding is_fresh fresh_in
fresh_same h sizes z low high known within = elim (cases_lt (high + 1) low) [
  | inl past ↦ let e : high + 1 - low ≡ 0 = omega arith in rw e refl
  | inr le ↦ any_range (λ k. size h.first h.history k) (λ x. x == z) sizes (high + 1 - low) low known (omega arith)
]

write_same : (h : Past) (sizes : List ℕ) (seen place off len : ℕ) (way : Way) → ((k : ℕ) → k < length sizes → slice_get sizes k ≡ Some (size h.first h.history k)) → place < length sizes →
    write_way h seen place off len way ≡ write_by sizes h.log seen place off len way
unfolding write_way write_by
write_same h sizes seen place off len ways.Req known within = refl
write_same h sizes seen place off len (ways.ReqSaw z) known within = ap (λ b. ltb z (off + len) && b) (fresh_same h sizes z seen place known within)
write_same h sizes seen place off len (ways.Via k m) known within = rw (get_or_from_slice_get sizes place (size h.first h.history place) 0 (known place within)) refl

windowed_same : (h : Past) (sizes : List ℕ) (cs : List Call) (ls : List Numbered) (file place call : ℕ) (c : Call) (way : Way) → ((k : ℕ) → k < length sizes → slice_get sizes k ≡ Some (size h.first h.history k)) → place < length sizes →
    windowed h cs ls file place call c way ≡ windowed_by sizes h.log (seen_before cs ls file call) cs ls place c way
unfolding windowed windowed_by
windowed_same h sizes cs ls file place call (calls.Read f off len) way known within = refl
windowed_same h sizes cs ls file place call (calls.Write f off bytes) way known within = write_same h sizes (seen_before cs ls file call) place off (length bytes) way known within
windowed_same h sizes cs ls file place call (calls.Fill f off len byte) way known within = write_same h sizes (seen_before cs ls file call) place off len way known within
windowed_same h sizes cs ls file place call (calls.Size f) way known within = refl
windowed_same h sizes cs ls file place call (calls.Truncate f size) way known within = refl
windowed_same h sizes cs ls file place call (calls.Hold f chunk mode) way known within = refl
windowed_same h sizes cs ls file place call (calls.Load hold off len) way known within = refl
windowed_same h sizes cs ls file place call (calls.Store hold off bytes) way known within = refl
windowed_same h sizes cs ls file place call (calls.Release hold) way known within = refl

-- ---- an entry

pub place_within : (s : Script) (t : Transcript) (rs : List Replay) → AreReplays s t rs → (file place : ℕ) (e : EntryLine) → entry_at t file place ≡ Some e → place < length (sizes_in rs file)
place_within s t rs tables file place e at =
    let there = at_entry t file place e at in
    omega (arith, slice_get_within there.0.entries place e there.2, sizes_many s t rs tables file there.0 there.1)

pub came_no_call : (s : Script) (t : Transcript) (file place : ℕ) (e : EntryLine) → slice_get (calls_of s e.guest) e.call ≡ None → came_right s t file place e ≡ false
came_no_call s t file place e at = rw at refl

pub came_by_request : (s : Script) (t : Transcript) (file place : ℕ) (e : EntryLine) (c : Call) → slice_get (calls_of s e.guest) e.call ≡ Some c → t.ranges ≡ 0 → came_right s t file place e ≡ is_req e.way
came_by_request s t file place e c at none = rw (at, none) refl

pub came_windowed : (s : Script) (t : Transcript) (rs : List Replay) (looks : List Look) → AreReplays s t rs → AreLooks s t looks → AreNamed s t → (file place : ℕ) (e : EntryLine) (c : Call) → entry_at t file place ≡ Some e →
    slice_get (calls_of s e.guest) e.call ≡ Some c → eqb t.ranges 0 ≡ false →
    came_right s t file place e ≡ windowed_by (sizes_in rs file) (log_in t file) (seen_in looks e.guest e.call) (calls_of s e.guest) (lines_of t e.guest) place c e.way
unfolding log_in
came_windowed s t rs looks tables looked named file place e c at called some =
    let there = at_entry t file place e at in
    let part = there.0 in
    let cs = calls_of s e.guest in
    let ls = lines_of t e.guest in
    let done = is_done cs ls file e.call place (named.each file place e at) in
    let same : done.asked ≡ c = (let f : Some done.asked ≡ Some c = sym done.at ∙ called in cc) in
    let aimed : target cs c ≡ Some done.to = subst (λ k. target cs k ≡ Some done.to) same done.aimed in
    let line : line_at t e.guest e.call ≡ Some done.line.line = ap (option_map (λ (n : Numbered). n.line)) done.there in
    let saw : seen_in looks e.guest e.call ≡ seen_before cs ls file e.call =
    seen_there s t looks looked e.guest e.call c done.line.line line called ∙ seen_aim cs ls e.call c done.to called aimed ∙ ap (λ f. seen_before cs ls f e.call) done.on_file in
    let many = sizes_many s t rs tables file part there.1 in
    let known = λ (k : ℕ) (small : k < length (sizes_in rs file)). sizes_there s t rs tables file part there.1 k (omega (arith, small, many)) in
    let log : (past_at (pasts s t) file).log ≡ part.log = ap (λ (h : Past). h.log) (past_is s t file part there.1) in
    let by_table = windowed_same (past_at (pasts s t) file) (sizes_in rs file) cs ls file place e.call c e.way known (place_within s t rs tables file place e at) in
    let right : came_right s t file place e ≡ windowed (past_at (pasts s t) file) cs ls file place e.call c e.way = rw (called, some) refl in
    right ∙ by_table ∙ rw (saw, there.1) (ap (λ (g : List LogEntry). windowed_by (sizes_in rs file) g (seen_before cs ls file e.call) cs ls place c e.way) log)

-- ---- a line

pub rises_by : (s : Script) (t : Transcript) (looks : List Look) → AreLooks s t looks → (guest call place : ℕ) (cs : List Call) (c : Call) (l : Line) (to : Target) → line_at t guest call ≡ Some l → cs ≡ calls_of s guest → slice_get cs call ≡ Some c →
    target cs c ≡ Some to → place_of l ≡ Some place → rises_at s t guest call l ≡ leb (seen_in looks guest call) place
unfolding rises
rises_by s t looks looked guest call place cs c l to line own at on done =
    let called : slice_get (calls_of s guest) call ≡ Some c = rw own at at in
    let aimed : target (calls_of s guest) c ≡ Some to = rw own at on in
    let saw = seen_there s t looks looked guest call c l line called ∙ seen_aim (calls_of s guest) (lines_of t guest) call c to called aimed in
    rw (called, aimed, done, saw) refl

pub rises_nowhere : (s : Script) (t : Transcript) (guest call : ℕ) (l : Line) → place_of l ≡ None → rises_at s t guest call l ≡ true
unfolding rises
rises_nowhere s t guest call l none = elim (cases_option (call_at s guest call)) [
  | inl c ↦ elim (cases_option (target (calls_of s guest) c.0)) [
    | inl to ↦ rw (c.1, to.1, none) refl
    | inr nil ↦ rw (c.1, nil, none) refl
  ]
  | inr nil ↦ rw nil refl
]

pub rises_off : (s : Script) (t : Transcript) (guest call place : ℕ) (cs : List Call) (c : Call) (l : Line) → cs ≡ calls_of s guest → slice_get cs call ≡ Some c → target cs c ≡ None → place_of l ≡ Some place → rises_at s t guest call l ≡ false
unfolding rises
rises_off s t guest call place cs c l own at off done =
    let called : slice_get (calls_of s guest) call ≡ Some c = rw own at at in
    let aimless : target (calls_of s guest) c ≡ None = rw own at off in
    rw (called, aimless, done) refl
