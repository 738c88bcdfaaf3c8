-- What a line tells, by the tables.
use Rattle.std.proofs.Common.{◌≡◌, ◌∙◌, ap, sym, refl, subst, ℕ, zero, suc, ◌+◌, ◌-◌, ◌*◌, ◌≤◌, ◌<◌, min, inl, inr, Bool, true, false, ◌==◌, List, [], ◌∷◌, map, take, drop, length, zip, slice_get, Option, Some, None, IfSome, option_map, unwrap_or, arith}
use Rattle.std.proofs.lemmas.Option.{none-some, slice_get-map, slice_get_within}
use Rattle.std.proofs.lemmas.Bool.{cases_lt}
use Rattle.std.specs.List.{list_any, range_with_len}
use Rattle.plain_file.specs.declared.operations.Through.{Through}
use Rattle.plain_file.specs.History.{size}
use Rattle.page_map.specs.Logs.{is_writable}
use Rattle.range_tree.specs.Logs.{is_live}
use Rattle.range_tree.proofs.Live.{live_within}
use Rattle.dax_script.specs.declared.scripts.Call.{Call}
use Rattle.dax_script.specs.declared.scripts.Call.TheVariants as calls
use Rattle.dax_script.specs.declared.scripts.Script.{Script}
use Rattle.dax_script.specs.declared.asks.Held.{Held}
use Rattle.dax_script.specs.declared.asks.Target.{Target}
use Rattle.plain_text.specs.Options.{◌>>=◌}
use Rattle.dax_script.specs.Asks.{chunk_size, target, whole_file, held_of, hold_in, op_from, calls_of}
use Rattle.plain_file.specs.File.{max_file}
use Rattle.dax_audit.specs.declared.looks.Look.{Look}
use Rattle.dax_audit.specs.declared.replays.Replay.{Replay}
use Rattle.transcript_text.specs.declared.transcripts.FilePart.{FilePart}
use Rattle.dax_audit.specs.declared.verdicts.Grant.{Grant}
use Rattle.transcript_text.specs.declared.transcripts.Line.{Line}
use Rattle.transcript_text.specs.declared.transcripts.Line.TheVariants as lines
use Rattle.transcript_text.specs.declared.transcripts.Numbered.{Numbered}
use Rattle.transcript_text.specs.declared.transcripts.Transcript.{Transcript}
use Rattle.dax_audit.specs.Guests.{place_on, places_on, first_place, next_place, seen_before, is_given_up, given_at}
use Rattle.dax_audit.specs.Rules.{Past, past_of, pasts, past_at, no_past, lines_of, line_at, is_end, grants, grant_for, access_end, tells, tells_at}
use Rattle.dax_audit.specs.Tables.{AreReplays, AreLooks, sizes_in, seen_in, given_in, log_in, no_log, had_by, tells_by, end_in, granted_line, end_of, deed_from, StaysWithin}
use Rattle.dax_audit.proofs.Lines.{at_line}
use Rattle.dax_audit.proofs.Singles.{zip_some}
use Rattle.dax_audit.proofs.Tabled.{past_is, sizes_there, sizes_many, any_range}
use Rattle.dax_audit.proofs.Looked.{length_zip}
use Rattle.dax_audit.proofs.Wayed.{get_number, seen_there, seen_aim, cases_option}

-- ---- the next place

drop_get : {X : Type 0} (xs : List X) (i : ℕ) (x : X) → slice_get xs i ≡ Some x → drop i xs ≡ x ∷ drop (i + 1) xs
drop_get [] i x h = absurd (none-some x h)
drop_get (y ∷ ys) zero x h = let e : y ≡ x = cc in ap (λ z. z ∷ ys) e
drop_get (y ∷ ys) (suc i) x h = let k : suc i + 1 ≡ suc (i + 1) = omega arith in rw k (drop_get ys i x h)

next_step : (cs : List Call) (ls : List Numbered) (file at : ℕ) (c : Call) (n : Numbered) → slice_get cs at ≡ Some c → slice_get ls at ≡ Some n → drop at (places_on cs ls file) ≡ place_on cs file (c, n) ∷ drop (at + 1) (places_on cs ls file)
next_step cs ls file at c n h k =
    drop_get (places_on cs ls file) at (place_on cs file (c, n)) (slice_get-map (place_on cs file) (zip cs ls) at ∙ ap (option_map (place_on cs file)) (zip_some cs ls at c n h k))

pub next_hit : (cs : List Call) (ls : List Numbered) (file at p : ℕ) (c : Call) (n : Numbered) (whole : Option ℕ) → slice_get cs at ≡ Some c → slice_get ls at ≡ Some n → Some p ≡ place_on cs file (c, n) → first_place (drop at (places_on cs ls file)) ≡ whole → Some p ≡ whole
unfolding first_place
next_hit cs ls file at p c n whole h k hit so =
    sym (ap first_place (next_step cs ls file at c n h k) ∙ ap (λ (o : Option ℕ). first_place (o ∷ drop (at + 1) (places_on cs ls file))) (sym hit)) ∙ so

pub next_miss : (cs : List Call) (ls : List Numbered) (file at : ℕ) (c : Call) (n : Numbered) (whole : Option ℕ) → slice_get cs at ≡ Some c → slice_get ls at ≡ Some n → None ≡ place_on cs file (c, n) → first_place (drop at (places_on cs ls file)) ≡ whole →
    first_place (drop (at + 1) (places_on cs ls file)) ≡ whole
unfolding first_place
next_miss cs ls file at c n whole h k miss so =
    sym (ap first_place (next_step cs ls file at c n h k) ∙ ap (λ (o : Option ℕ). first_place (o ∷ drop (at + 1) (places_on cs ls file))) (sym miss)) ∙ so

map_length : {X Y : Type 0} (v : X → Y) (xs : List X) → length (map v xs) ≡ length xs
map_length v [] = refl
map_length v (x ∷ xs) = ap suc (map_length v xs)

drop_all : {X : Type 0} (xs : List X) (i : ℕ) → length xs ≤ i → drop i xs ≡ []
drop_all [] zero h = refl
drop_all [] (suc i) h = refl
drop_all (x ∷ xs) zero h = absurd (omega arith)
drop_all (x ∷ xs) (suc i) h = drop_all xs i (omega arith)

pub next_end : (cs : List Call) (ls : List Numbered) (file at : ℕ) (whole : Option ℕ) → min (length cs) (length ls) ≤ at → first_place (drop at (places_on cs ls file)) ≡ whole → None ≡ whole
unfolding first_place
next_end cs ls file at whole past so =
    let e = drop_all (places_on cs ls file) at (omega (arith, map_length (place_on cs file) (zip cs ls), length_zip cs ls)) in
    sym (ap first_place e) ∙ so

-- ---- what a guest has of a hold

given_there : (s : Script) (t : Transcript) (looks : List Look) → AreLooks s t looks → (guest call : ℕ) (c : Call) (l : Line) → line_at t guest call ≡ Some l → slice_get (calls_of s guest) call ≡ Some c →
    given_in looks guest call ≡ given_at (calls_of s guest) (lines_of t guest) call
unfolding given_in
given_there s t looks tables guest call c l line at =
    let there = at_line t guest call l line in
    let part = there.0 in
    let row = tables.each guest part there.2 in
    let own : lines_of t guest ≡ part.lines = rw there.2 refl in
    let few = slice_get_within (calls_of s guest) call c at in
    let many = slice_get_within part.lines call there.1 there.3 in
    let n = length (zip (calls_of s guest) part.lines) in
    let within : call < n = omega (arith, length_zip (calls_of s guest) part.lines) in
    let number : slice_get (range_with_len 0 n) call ≡ Some call = get_number 0 n call within ∙ (let e : 0 + call ≡ call = omega arith in ap Some e) in
    let cell : slice_get row.0.given.items call ≡ Some (given_at (calls_of s guest) part.lines call) =
    ap (λ (xs : List Bool). slice_get xs call) row.2.given ∙ slice_get-map (given_at (calls_of s guest) part.lines) (range_with_len 0 n) call ∙ ap (option_map (given_at (calls_of s guest) part.lines)) number in
    rw (own, row.1, cell) refl

had_from : (cs : List Call) (ls : List Numbered) (call : ℕ) (hold : Option ℕ) (given : Bool) → ((h : ℕ) → hold ≡ Some h → given ≡ is_given_up cs ls h call) → had_by given cs ls hold ≡ grant_for cs ls call hold
unfolding had_by
had_from cs ls call None given h = refl
had_from cs ls call (Some k) given h = rw (h k refl) refl

had_same : (s : Script) (t : Transcript) (looks : List Look) → AreLooks s t looks → (guest call : ℕ) (c : Call) (l : Line) → line_at t guest call ≡ Some l → slice_get (calls_of s guest) call ≡ Some c →
    had_by (given_in looks guest call) (calls_of s guest) (lines_of t guest) (hold_in c) ≡ grant_for (calls_of s guest) (lines_of t guest) call (hold_in c)
unfolding given_at
had_same s t looks tables guest call c l line at =
    had_from (calls_of s guest) (lines_of t guest) call (hold_in c) (given_in looks guest call) (λ h e. given_there s t looks tables guest call c l line at ∙ rw (at, e) refl)

-- ---- a hold's grant

held_target : (cs : List Call) (c : Call) (held : Held) → held_of c ≡ Some held → target cs c ≡ Some (whole_file held.file)
unfolding held_of target
held_target cs (calls.Hold file chunk mode) held h = let e : record { file = file; chunk = chunk; mode = mode } ≡ held = cc in ap (λ (k : Held). Some (whole_file k.file)) e
held_target cs (calls.Read file off len) held h = absurd (none-some held h)
held_target cs (calls.Write file off bytes) held h = absurd (none-some held h)
held_target cs (calls.Fill file off len byte) held h = absurd (none-some held h)
held_target cs (calls.Size file) held h = absurd (none-some held h)
held_target cs (calls.Truncate file size) held h = absurd (none-some held h)
held_target cs (calls.Load hold off len) held h = absurd (none-some held h)
held_target cs (calls.Store hold off bytes) held h = absurd (none-some held h)
held_target cs (calls.Release hold) held h = absurd (none-some held h)

log_found : (s : Script) (o : Option FilePart) → (unwrap_or (option_map (past_of s) o) no_past).log ≡ no_log o
log_found s None = refl
log_found s (Some part) = refl

log_past : (s : Script) (t : Transcript) (file : ℕ) → (past_at (pasts s t) file).log ≡ log_in t file
unfolding log_in
log_past s t file = rw (slice_get-map (past_of s) t.files file) (log_found s (slice_get t.files file))

live_part : (t : Transcript) (file : ℕ) (w : Bool) (chunk k m : ℕ) → is_live w (log_in t file) chunk k m ≡ true → (part : FilePart) × (slice_get t.files file ≡ Some part)
unfolding log_in
live_part t file w chunk k m h = elim (cases_option (slice_get t.files file)) [
  | inl part ↦ part
  | inr none ↦
      let both = live_within w (log_in t file) chunk k m h in
      let below : k < m = both.0 in
      let few : m ≤ length (no_log (slice_get t.files file)) = both.1 in
      let nothing : m ≤ 0 = subst (λ (o : Option FilePart). m ≤ length (no_log o)) none few in
      absurd (omega arith)
]

pub not_live : (s : Script) (t : Transcript) (guest call end : ℕ) (held : Held) (k : Through) → is_live (is_writable held.mode) (log_in t held.file) held.chunk k.entry k.upto ≡ false → grants (pasts s t) (calls_of s guest) (lines_of t guest) call (Some held) end k ≡ false
unfolding grants
not_live s t guest call end held k h = rw (log_past s t held.file, h) refl

pub has_sizes : (s : Script) (t : Transcript) (rs : List Replay) → AreReplays s t rs → (held : Held) (k : Through) → is_live (is_writable held.mode) (log_in t held.file) held.chunk k.entry k.upto ≡ true → 0 < length (sizes_in rs held.file)
has_sizes s t rs tables held k live =
    let part = live_part t held.file (is_writable held.mode) held.chunk k.entry k.upto live in
    omega (arith, sizes_many s t rs tables held.file part.0 part.1)

pub granted_by : (s : Script) (t : Transcript) (rs : List Replay) (looks : List Look) → AreReplays s t rs → AreLooks s t looks → (guest call end high : ℕ) (c : Call) (l : Line) (held : Held) (k : Through) → line_at t guest call ≡ Some l → slice_get (calls_of s guest) call ≡ Some c → held_of c ≡ Some held →
    is_live (is_writable held.mode) (log_in t held.file) held.chunk k.entry k.upto ≡ true → high ≡ min (unwrap_or (next_place (calls_of s guest) (lines_of t guest) held.file call) (length (sizes_in rs held.file) - 1)) (length (sizes_in rs held.file) - 1) →
    grants (pasts s t) (calls_of s guest) (lines_of t guest) call (Some held) end k ≡ end_in (sizes_in rs held.file) held.chunk end (seen_in looks guest call) high
unfolding grants is_end end_in
granted_by s t rs looks tables looked guest call end high c l held k line at is live top =
    let cs = calls_of s guest in
    let ls = lines_of t guest in
    let found = live_part t held.file (is_writable held.mode) held.chunk k.entry k.upto live in
    let part = found.0 in
    let sizes = sizes_in rs held.file in
    let h = past_at (pasts s t) held.file in
    let many = sizes_many s t rs tables held.file part found.1 in
    let own : length h.history ≡ length part.entries = ap (λ (p : Past). length p.history) (past_is s t held.file part found.1) ∙ map_length _ part.entries in
    let whole : length h.history ≡ length sizes - 1 = omega arith in
    let known = λ (n : ℕ) (small : n < length sizes). sizes_there s t rs tables held.file part found.1 n (omega (arith, small, many)) in
    let saw : seen_in looks guest call ≡ seen_before cs ls held.file call = seen_there s t looks looked guest call c l line at ∙ seen_aim cs ls call c (whole_file held.file) at (held_target cs c held is) in
    let within : high < length sizes = omega arith in
    let low = seen_before cs ls held.file call in
    let test = λ (x : ℕ). min ((held.chunk + 1) * chunk_size) x == end in
    let same : list_any (λ n. test (size h.first h.history n)) (range_with_len low (high + 1 - low)) ≡ list_any test (take (high + 1 - low) (drop low sizes)) = elim (cases_lt (high + 1) low) [
      | inl past ↦ let e : high + 1 - low ≡ 0 = omega arith in rw e refl
      | inr le ↦ any_range (λ n. size h.first h.history n) test sizes (high + 1 - low) low known (omega arith)
    ] in
    rw (log_past s t held.file, live, whole, ← top, saw) same

-- ---- a line

tells_same : (ranges : ℕ) (ps : List Past) (cs : List Call) (ls : List Numbered) (call : ℕ) (c : Call) (l : Line) → tells ranges ps cs ls call c l ≡ tells_by ranges (hold_in c) (grant_for cs ls call (hold_in c)) (access_end (target cs c) c) (granted_line ps cs ls call c l) l
unfolding tells tells_by granted_line
tells_same ranges ps cs ls call c (lines.Done place answer) = refl
tells_same ranges ps cs ls call c (lines.Held end k) = refl
tells_same ranges ps cs ls call c lines.Released = refl
tells_same ranges ps cs ls call c (lines.Busy letters) = refl
tells_same ranges ps cs ls call c (lines.Leased count) = refl
tells_same ranges ps cs ls call c lines.NoHold = refl
tells_same ranges ps cs ls call c (lines.Past end) = refl

pub tells_all : (s : Script) (t : Transcript) (looks : List Look) → AreLooks s t looks → (guest call : ℕ) (cs : List Call) (c : Call) (l : Line) → line_at t guest call ≡ Some l → cs ≡ calls_of s guest → slice_get cs call ≡ Some c →
    tells_at s t guest call l ≡ tells_by t.ranges (hold_in c) (had_by (given_in looks guest call) (calls_of s guest) (lines_of t guest) (hold_in c)) (access_end (target (calls_of s guest) c) c) (granted_line (pasts s t) (calls_of s guest) (lines_of t guest) call c l) l
tells_all s t looks looked guest call cs c l line own at =
    let called : slice_get (calls_of s guest) call ≡ Some c = rw own at at in
    rw called (tells_same t.ranges (pasts s t) (calls_of s guest) (lines_of t guest) call c l
    ∙ ap (λ (had : Option Grant). tells_by t.ranges (hold_in c) had (access_end (target (calls_of s guest) c) c) (granted_line (pasts s t) (calls_of s guest) (lines_of t guest) call c l) l) (sym (had_same s t looks looked guest call c l line called)))

within_option : (o : Option Target) (c : Call) → end_of (deed_from (o >>= λ to. op_from to.start c)) ≤ max_file → IfSome o (λ x. end_of (deed_from (op_from x.start c)) ≤ max_file)
within_option None c h = tt
within_option (Some to) c h = h

pub within_target : (s : Script) → StaysWithin s → (guest call : ℕ) (c : Call) → slice_get (calls_of s guest) call ≡ Some c → IfSome (target (calls_of s guest) c) (λ x. end_of (deed_from (op_from x.start c)) ≤ max_file)
within_target s h guest call c at = within_option (target (calls_of s guest) c) c (h.each guest call c at)
