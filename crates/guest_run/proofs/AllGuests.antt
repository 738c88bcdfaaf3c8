-- The runs of all guests of a script are a legal transcript.
use Rattle.std.proofs.Common.{◌≡◌, ⊎_elim, ◌∙◌, ap, sym, subst, refl, ℕ, zero, suc, ◌+◌, ◌*◌, ◌<◌, ◌≤◌, ◌==◌, ◌&&◌, ◌||◌, nat_le, nat_lt, min, not, is_some, is_none, Bool, true, false, List, [], ◌∷◌, length, map, take, drop, slice_get, zip, Option, Some, None, option_map, unwrap_or, arith, if◌then◌else◌}
use Rattle.std.specs.List.{range_with_len}
use Rattle.std.proofs.lemmas.Bool.{eq-eqb, eqb-true, le-leb, lt-ltb, and_from}
use Rattle.std.proofs.lemmas.Slice.Eq.{bytes_eq-Decides}
use Rattle.plain_file.specs.declared.operations.Answer.{Answer}
use Rattle.plain_file.specs.declared.operations.Answer.TheVariants as answers
use Rattle.plain_file.specs.declared.operations.Entry.{Entry}
use Rattle.plain_file.specs.declared.operations.First.{First}
use Rattle.plain_file.specs.declared.operations.Op.{Op}
use Rattle.plain_file.specs.declared.operations.Op.TheVariants as ops
use Rattle.plain_file.specs.declared.operations.Way.{Way}
use Rattle.plain_file.specs.File.{answer}
use Rattle.plain_file.specs.History.{bytes, size, reply}
use Rattle.page_map.specs.declared.ranges.LogEntry.{LogEntry}
use Rattle.page_map.specs.Logs.{is_writable}
use Rattle.range_tree.specs.Logs.{is_live, unsound_at}
use Rattle.dax_script.specs.declared.scripts.Call.{Call}
use Rattle.dax_script.specs.declared.scripts.Call.TheVariants as calls
use Rattle.dax_script.specs.declared.scripts.FileLine.{FileLine}
use Rattle.dax_script.specs.declared.scripts.Script.{Script}
use Rattle.dax_script.specs.declared.asks.Target.{Target}
use Rattle.plain_text.specs.Options.{◌>>=◌}
use Rattle.dax_script.specs.Asks.{chunk_size, target, op_of, calls_of, call_at, hold_in}
use Rattle.transcript_text.specs.declared.transcripts.EntryLine.{EntryLine}
use Rattle.transcript_text.specs.declared.transcripts.FilePart.{FilePart}
use Rattle.transcript_text.specs.declared.transcripts.GuestPart.{GuestPart}
use Rattle.transcript_text.specs.declared.transcripts.Line.{Line}
use Rattle.transcript_text.specs.declared.transcripts.Line.TheVariants as lines
use Rattle.transcript_text.specs.declared.transcripts.Numbered.{Numbered}
use Rattle.transcript_text.specs.declared.transcripts.Transcript.{Transcript}
use Rattle.dax_audit.specs.Guests.{place_of, is_file, place_on, places_on, after_places, seen_before, first_place, next_place}
use Rattle.dax_audit.specs.Tables.{end_of}
use Rattle.dax_audit.specs.Rules.{Past, no_past, op_in, entry_in, past_of, pasts, past_at, lines_of, line_at, entry_at, fits, fits_at, names, has_entry, has_entry_at, is_at, is_done_at, is_named, rises, rises_at, same_answer, replies, replies_right, tells, tells_at, way_fits, came_right, judged, is_answer, is_releasing, is_within, is_past, grant_for, access_end, is_end, grants}
use Rattle.dax_audit.specs.Legal.{file_line, IsLegal}
use Rattle.guest_run.specs.Runs.{Asked, on_file, asked, the_entry, Came, IsDone, IsGranted, IsGivenBack, IsBlocked, IsLeased, IsWithoutHold, IsPast, IsTold, IsOf, IsPlaced, IsSeenBefore, IsSeenUntil, IsRun, entry_line, part_of, parts_from, IsPlayed}
use Rattle.guest_run.proofs.Places.{none_is, some_is, within, found, same_list, in_range, range_len, in_map, map_at, map_len, bound, mapped, in_take, in_drop, in_zip, of_zip}
use Rattle.guest_run.proofs.Asking.{IsAsking, asked_on_file, asked_keeps, access_ends, held_is_hold, any_from_to, way_right}
use Rattle.guest_run.proofs.Guests.{IsElse, was_only, else_nowhere, done_there}

-- the place after places below a number is at most it
seen_within : (q seen : ℕ) (ps : List (Option ℕ)) → seen ≤ q → ((m p : ℕ) → slice_get ps m ≡ Some (Some p) → p < q) → after_places seen ps ≤ q
unfolding after_places
seen_within q seen [] low h = low
seen_within q seen (None ∷ ps) low h = seen_within q seen ps low (λ m p e. h (suc m) p e)
seen_within q seen (Some p ∷ ps) low h = let k = h 0 p refl in seen_within q (p + 1) ps (omega arith) (λ m r e. h (suc m) r e)

-- a number that isn't above any of these places, nor above another, isn't above the first one
first_from : (q other : ℕ) (ps : List (Option ℕ)) → q ≤ other → ((m p : ℕ) → slice_get ps m ≡ Some (Some p) → q ≤ p) → q ≤ unwrap_or (first_place ps) other
unfolding first_place
first_from q other [] low h = low
first_from q other (None ∷ ps) low h = first_from q other ps low (λ m p e. h (suc m) p e)
first_from q other (Some p ∷ ps) low h = h 0 p refl

eqb-same : (n : ℕ) → (n == n) ≡ true
eqb-same n = eq-eqb n n refl

-- the call is on the file that it asks of
its_file : (cs : List Call) (c : Call) (to : Asked) (f : ℕ) → IsAsking cs c to → is_file f (target cs c) ≡ true → to.file ≡ f
its_file cs c to f on e = sym on.file ∙ eqb-true on.at.file f (sym (ap (is_file f) on.aims) ∙ e)

-- where a guest's calls are done in a file
placed : (cs : List Call) (ls : List Numbered) (f n p : ℕ) → IsPlaced cs ls f n p → slice_get (places_on cs ls f) n ≡ Some (Some p)
placed cs ls f n p a =
    let on = asked_on_file cs a.call (record { file = f; op = a.op }) a.asks in
    map_at (place_on cs f) (zip cs ls) n (a.call, a.line) (in_zip cs ls n a.call a.line a.made a.told)
    ∙ ap Some (ap (λ (o : Option Target). if is_file f o then place_of a.line.line else None) on.aims ∙ (ap (λ (b : Bool). if b then place_of a.line.line else None) (eq-eqb on.at.file f on.file) ∙ a.place))

there_if : {A : Type 0} (b : Bool) (o : Option A) (x : A) → (if b then o else None) ≡ Some x → (b ≡ true) × (o ≡ Some x)
there_if true o x e = (refl, e)
there_if false o x e = absurd (none_is x e)

same_answer-self : (a : Answer) → same_answer a a ≡ true
unfolding same_answer
same_answer-self (answers.Bytes xs) = (bytes_eq-Decides xs xs).1 refl
same_answer-self (answers.Wrote n) = eqb-same n
same_answer-self (answers.Size n) = eqb-same n

done_place : (place : ℕ) (a : Answer) → place_of (lines.Done place a) ≡ Some place
unfolding place_of
done_place place a = refl

-- a line without a place answers nothing
quiet : (ps : List Past) (to : Option Target) (l : Line) → place_of l ≡ None → replies ps to l ≡ true
unfolding place_of replies
quiet ps to (lines.Done place a) none = absurd (none_is place (sym none))
quiet ps to (lines.Held end through) none = refl
quiet ps to lines.Released none = refl
quiet ps to (lines.Busy letters) none = refl
quiet ps to (lines.Leased count) none = refl
quiet ps to lines.NoHold none = refl
quiet ps to (lines.Past end) none = refl

-- what is done through a hold ends within it
done_tells : (ranges : ℕ) (first : First) (h : List Entry) (log : List LogEntry) (cs : List Call) (ls : List Numbered) (n : ℕ) (hold : Option ℕ) (place : ℕ) (c : Call) (to : Asked) (way : Way) → hold_in c ≡ hold → asked cs c ≡ Some to
    → Came ranges first h log cs ls n hold place to way → (is_none hold || is_within (grant_for cs ls n hold) (access_end (target cs c) c)) ≡ true
unfolding Came
done_tells ranges first h log cs ls n None place c to way uses asks came = refl
done_tells ranges first h log cs ls n (Some hold) place c to way uses asks came =
    (λ i. is_within (came.had i) (access_ends cs c hold to uses asks i)) ∙ le-leb (end_of to.op) came.grant.end came.within

-- the end of a hold is fresh
ends : (p : Past) (chunk z low high k : ℕ) → low ≤ k → k ≤ high → z ≡ min ((chunk + 1) * chunk_size) (size p.first p.history k) → is_end p chunk z low high ≡ true
unfolding is_end
ends p chunk z low high k lo hi is = any_from_to (λ n. min ((chunk + 1) * chunk_size) (size p.first p.history n) == z) low high k lo hi (eq-eqb (min ((chunk + 1) * chunk_size) (size p.first p.history k)) z (sym is))

-- it is released, as the call that uses it is a release
releases_hold : (c : Call) (hold : ℕ) → c ≡ calls.Release hold → (hold_in c ≡ Some hold) × (is_releasing c ≡ true)
unfolding hold_in is_releasing
releases_hold c hold gives = (ap hold_in gives, ap is_releasing gives)

module _ (guest ranges : ℕ) (first : ℕ → First) (h : ℕ → List Entry) (logs : ℕ → List LogEntry) (cs : List Call) (ls : List Numbered) (r : IsRun guest ranges first h logs cs ls) where
  -- a place in a file is that of a call on it
  of_places : (f n p : ℕ) → slice_get (places_on cs ls f) n ≡ Some (Some p) → IsPlaced cs ls f n p
  of_places f n p e =
      let a = in_map (place_on cs f) (zip cs ls) n (Some p) e in
      let b = of_zip cs ls n a.0 a.1 in
      let q = there_if (is_file f (target cs a.0.0)) (place_of a.0.1.line) p a.2 in
      let d = (done_there guest ranges first h logs (λ f. []) cs ls n p a.0.0 a.0.1 q.1 (r.told n a.0.0 a.0.1 b.0 b.1)).0 in
      let file : d.to.file ≡ f = its_file cs a.0.0 d.to f (asked_on_file cs a.0.0 d.to d.asks) q.0 in
      record {
        call = a.0.0;
        op = d.to.op;
        made = b.0;
        asks = d.asks ∙ ap (λ (x : ℕ). on_file x d.to.op) file;
        line = a.0.1;
        told = b.1;
        place = q.1;
      }

  -- what was seen before a call, as the audit counts it, is no more than a bound that all places before it are below
  seen_under : (f n k : ℕ) → IsSeenBefore cs ls f n k → seen_before cs ls f n ≤ k
  seen_under f n k seen = seen_within k 0 (take n (places_on cs ls f)) (omega arith) (λ m p e. let x = in_take n (places_on cs ls f) m (Some p) e in seen m p x.0 (of_places f m p x.1))

  -- and than the place of the call
  seen_low : (f n q : ℕ) → IsPlaced cs ls f n q → seen_before cs ls f n ≤ q
  seen_low f n q a = seen_under f n q (λ m p lt b. r.rising f m n p q lt b a)

  -- a length that no place behind a call is below isn't above the next one
  next_above : (f n k : ℕ) → IsSeenUntil cs ls f n k → k ≤ length (h f) → k ≤ unwrap_or (next_place cs ls f n) (length (h f))
  next_above f n k until known = first_from k (length (h f)) (drop (n + 1) (places_on cs ls f)) known (λ m p e. until (n + 1 + m) p (omega arith) (of_places f (n + 1 + m) p (in_drop (n + 1) (places_on cs ls f) m (Some p) e)))

  -- the line of a call has the call's number
  numbered : (n : ℕ) (c : Call) (l : Numbered) → IsTold guest ranges first h logs (λ f. []) cs ls n c l → l.call ≡ n
  numbered n c l =
      let number = λ (k : Numbered). k.call in ⊎_elim
      (λ (d : IsDone guest ranges first h logs cs ls n c l). ap number d.line)
      (⊎_elim
      (λ (b : IsGranted first h logs (λ f. []) cs ls n c l). ap number b.line)
      (⊎_elim
      (λ (b : IsGivenBack cs ls n c l). ap number b.line)
      (⊎_elim
      (λ (b : IsBlocked ranges n c l). ap number b.line)
      (⊎_elim
      (λ (b : IsLeased n c l). ap number b.line)
      (⊎_elim
      (λ (b : IsWithoutHold cs ls n c l). ap number b.line)
      (λ (b : IsPast cs ls n c l). ap number b.line))))))

-- ---- the parts of files

file_lines : (h : ℕ → List Entry) (logs : ℕ → List LogEntry) (n : ℕ) (fs : List FileLine) → map file_line (parts_from h logs n fs) ≡ fs
file_lines h logs n [] = refl
file_lines h logs n (f ∷ fs) = ap (λ (gs : List FileLine). f ∷ gs) (file_lines h logs (n + 1) fs)

part_at : (h : ℕ → List Entry) (logs : ℕ → List LogEntry) (n : ℕ) (fs : List FileLine) (i : ℕ) (part : FilePart) → slice_get (parts_from h logs n fs) i ≡ Some part → (f : FileLine) × (slice_get fs i ≡ Some f) × (part ≡ part_of h logs (n + i) f)
part_at h logs n [] i part e = absurd (none_is part e)
part_at h logs n (f ∷ fs) zero part e = let z : n ≡ n + 0 = omega arith in (f, refl, sym (some_is _ part e) ∙ ap (λ (k : ℕ). part_of h logs k f) z)
part_at h logs n (f ∷ fs) (suc i) part e = let x = part_at h logs (n + 1) fs i part e in let z : n + 1 + i ≡ n + suc i = omega arith in (x.0, x.1, x.2 ∙ ap (λ (k : ℕ). part_of h logs k x.0) z)

part_there : (h : ℕ → List Entry) (logs : ℕ → List LogEntry) (n : ℕ) (fs : List FileLine) (i : ℕ) (f : FileLine) → slice_get fs i ≡ Some f → slice_get (parts_from h logs n fs) i ≡ Some (part_of h logs (n + i) f)
part_there h logs n [] i f e = absurd (none_is f e)
part_there h logs n (g ∷ fs) zero f e = let z : n ≡ n + 0 = omega arith in (λ i. Some (part_of h logs (z i) (some_is g f e i)))
part_there h logs n (g ∷ fs) (suc i) f e = let z : n + 1 + i ≡ n + suc i = omega arith in part_there h logs (n + 1) fs i f e ∙ ap (λ (k : ℕ). Some (part_of h logs k f)) z

found_line : (ls : Option (List Numbered)) (n : ℕ) (l : Numbered) → slice_get (unwrap_or ls []) n ≡ Some l → (xs : List Numbered) × (ls ≡ Some xs) × (slice_get xs n ≡ Some l)
found_line None n l e = absurd (none_is l e)
found_line (Some xs) n l e = (xs, refl, e)

module _ (first : ℕ → First) (h : ℕ → List Entry) (logs : ℕ → List LogEntry) (s : Script) (t : Transcript) (r : IsPlayed first h logs s t) where
  -- the line of a call, with its call and its guest's run
  record Found (g n : ℕ) (l : Line) : Type 0 where
    cs : List Call
    part : GuestPart
    calls_at : slice_get s.guests g ≡ Some cs
    part_there : slice_get t.guests g ≡ Some part
    run : IsRun g s.ranges first h logs cs part.lines
    call : Call
    made : slice_get cs n ≡ Some call
    line : Numbered
    told : slice_get part.lines n ≡ Some line
    is : line.line ≡ l
    says : IsTold g s.ranges first h logs (λ f. []) cs part.lines n call line
    calls_are : calls_of s g ≡ cs
    lines_are : lines_of t g ≡ part.lines

  find : (g n : ℕ) (l : Line) → line_at t g n ≡ Some l → Found g n l
  find g n l e =
      let a = mapped (λ (k : Numbered). k.line) (slice_get (lines_of t g) n) l e in
      let b = found_line (option_map (λ (p : GuestPart). p.lines) (slice_get t.guests g)) n a.0 a.1 in
      let c = mapped (λ (p : GuestPart). p.lines) (slice_get t.guests g) b.0 b.1 in
      let part = c.0 in
      let there : slice_get part.lines n ≡ Some a.0 = ap (λ (xs : List Numbered). slice_get xs n) c.2 ∙ b.2 in
      let cs = found s.guests g (let w = within t.guests g part c.1 in let k = r.count in omega arith) in
      let its = r.guests g cs.0 part cs.1 c.1 in
      let run = its.run in
      let call = found cs.0 n (let w = within part.lines n a.0 there in let k = its.count in omega arith) in
      record {
        cs = cs.0;
        part = part;
        calls_at = cs.1;
        part_there = c.1;
        run = run;
        call = call.0;
        made = call.1;
        line = a.0;
        told = there;
        is = a.2;
        says = run.told n call.0 a.0 call.1 there;
        calls_are = ap (λ (o : Option (List Call)). unwrap_or o []) cs.1;
        lines_are = ap (λ (o : Option GuestPart). unwrap_or (option_map (λ (p : GuestPart). p.lines) o) []) c.1;
      }

  call_is : (g n : ℕ) (l : Line) (x : Found g n l) → call_at s g n ≡ Some x.call
  call_is g n l x = ap (λ (cs : List Call). slice_get cs n) x.calls_are ∙ x.made

  -- what the line of a call says
  abbrev Done : (g n : ℕ) (l : Line) → Found g n l → Type 0
  Done g n l x = IsDone g s.ranges first h logs x.cs x.part.lines n x.call x.line

  abbrev Else : (g n : ℕ) (l : Line) → Found g n l → Type 0
  Else g n l x = IsElse s.ranges first h logs (λ f. []) x.cs x.part.lines n x.call x.line

  abbrev Granted : (g n : ℕ) (l : Line) → Found g n l → Type 0
  Granted g n l x = IsGranted first h logs (λ f. []) x.cs x.part.lines n x.call x.line

  abbrev GivenBack : (g n : ℕ) (l : Line) → Found g n l → Type 0
  GivenBack g n l x = IsGivenBack x.cs x.part.lines n x.call x.line

  abbrev Blocked : (g n : ℕ) (l : Line) → Found g n l → Type 0
  Blocked g n l x = IsBlocked s.ranges n x.call x.line

  abbrev Leased : (g n : ℕ) (l : Line) → Found g n l → Type 0
  Leased g n l x = IsLeased n x.call x.line

  abbrev WithoutHold : (g n : ℕ) (l : Line) → Found g n l → Type 0
  WithoutHold g n l x = IsWithoutHold x.cs x.part.lines n x.call x.line

  abbrev PastEnd : (g n : ℕ) (l : Line) → Found g n l → Type 0
  PastEnd g n l x = IsPast x.cs x.part.lines n x.call x.line

  -- a test of the call holds where it does whether the line has a place or not
  each : (g n : ℕ) (l : Line) (x : Found g n l) (test : Call → Bool) → (Done g n l x → test x.call ≡ true) → (Else g n l x → test x.call ≡ true) → judged (call_at s g n) test ≡ true
  each g n l x test done other = ap (λ (o : Option Call). judged o test) (call_is g n l x) ∙ ⊎_elim (λ (d : Done g n l x). done d) (λ (b : Else g n l x). other b) x.says

  -- in each case of a line without a place
  record Cases (g n : ℕ) (l : Line) (x : Found g n l) (test : Call → Bool) : Type 0 where
    granted : Granted g n l x → test x.call ≡ true
    given_back : GivenBack g n l x → test x.call ≡ true
    blocked : Blocked g n l x → test x.call ≡ true
    leased : Leased g n l x → test x.call ≡ true
    without_hold : WithoutHold g n l x → test x.call ≡ true
    past_end : PastEnd g n l x → test x.call ≡ true

  in_cases : (g n : ℕ) (l : Line) (x : Found g n l) (test : Call → Bool) → Cases g n l x test → Else g n l x → test x.call ≡ true
  in_cases g n l x test k = ⊎_elim
      (λ (b : Granted g n l x). k.granted b)
      (⊎_elim
      (λ (b : GivenBack g n l x). k.given_back b)
      (⊎_elim
      (λ (b : Blocked g n l x). k.blocked b)
      (⊎_elim
      (λ (b : Leased g n l x). k.leased b)
      (⊎_elim
      (λ (b : WithoutHold g n l x). k.without_hold b)
      (λ (b : PastEnd g n l x). k.past_end b)))))

  on : (g n : ℕ) (l : Line) (x : Found g n l) (d : Done g n l x) → IsAsking x.cs x.call d.to
  on g n l x d = asked_on_file x.cs x.call d.to d.asks

  -- the call's target, as the audit finds it
  aimed : (g n : ℕ) (l : Line) (x : Found g n l) (d : Done g n l x) → target (calls_of s g) x.call ≡ Some (on g n l x d).at
  aimed g n l x d = (λ i. target (x.calls_are i) x.call) ∙ (on g n l x d).aims

  in_file : (g n : ℕ) (l : Line) (x : Found g n l) (d : Done g n l x) → d.to.file < length s.files
  in_file g n l x d = r.in_files g n x.cs x.call d.to x.calls_at x.made d.asks

  says_so : (g n : ℕ) (l : Line) (x : Found g n l) (says : Line) → x.line ≡ record { call = n; line = says } → l ≡ says
  says_so g n l x says is = sym x.is ∙ ap (λ (k : Numbered). k.line) is

  line_is : (g n : ℕ) (l : Line) (x : Found g n l) (d : Done g n l x) → l ≡ lines.Done d.place (answer (bytes (first d.to.file) (h d.to.file) d.place) d.to.op)
  line_is g n l x d = says_so g n l x _ d.line

  place_is : (g n : ℕ) (l : Line) (x : Found g n l) (d : Done g n l x) → place_of l ≡ Some d.place
  place_is g n l x d = ap place_of (line_is g n l x d) ∙ done_place d.place (answer (bytes (first d.to.file) (h d.to.file) d.place) d.to.op)

  no_place : (g n : ℕ) (l : Line) (x : Found g n l) (b : Else g n l x) → place_of l ≡ None
  no_place g n l x b = ap place_of (sym x.is) ∙ else_nowhere s.ranges first h logs (λ f. []) x.cs x.part.lines n x.call x.line b

  -- an entry of a history is that of a call, which is done there
  record Known (f p : ℕ) (e : Entry) : Type 0 where
    cs : List Call
    part : GuestPart
    run : IsRun e.guest s.ranges first h logs cs part.lines
    calls_at : slice_get s.guests e.guest ≡ Some cs
    of : IsOf e.guest cs part.lines f p e
    calls_are : calls_of s e.guest ≡ cs
    lines_are : lines_of t e.guest ≡ part.lines

  know : (f p : ℕ) (e : Entry) → slice_get (h f) p ≡ Some e → Known f p e
  know f p e at =
      let lt = r.known f p e at in
      let x = found s.guests e.guest lt in
      let y = found t.guests e.guest (let k = r.count in omega arith) in
      let run = (r.guests e.guest x.0 y.0 x.1 y.1).run in record {
        cs = x.0;
        part = y.0;
        run = run;
        calls_at = x.1;
        of = run.only f p e (omega arith) at refl;
        calls_are = ap (λ (o : Option (List Call)). unwrap_or o []) x.1;
        lines_are = ap (λ (o : Option GuestPart). unwrap_or (option_map (λ (q : GuestPart). q.lines) o) []) y.1;
      }

  known_call : (f p : ℕ) (e : Entry) (k : Known f p e) → call_at s e.guest e.call ≡ Some k.of.call
  known_call f p e k = ap (λ (cs : List Call). slice_get cs e.call) k.calls_are ∙ k.of.made

  -- the way of an entry fits
  known_way : (f p : ℕ) (e : Entry) (k : Known f p e) → slice_get (h f) p ≡ Some e → Came s.ranges (first f) (h f) (logs f) k.cs k.part.lines e.call (hold_in k.of.call) p (record { file = f; op = e.op }) e.way
  known_way f p e k at =
      let o = k.of in
      let x = done_there e.guest s.ranges first h logs (λ f. []) k.cs k.part.lines e.call p o.call o.line o.place (k.run.told e.call o.call o.line o.made o.told) in
      let d = x.0 in
      let to : d.to ≡ record { file = f; op = e.op } = some_is d.to (record { file = f; op = e.op }) (sym d.asks ∙ o.asks) in
      let file : d.to.file ≡ f = ap (λ (a : Asked). a.file) to in
      let here : the_entry e.guest e.call d.to.op d.way ≡ e = some_is (the_entry e.guest e.call d.to.op d.way) e (sym d.entry ∙ ((λ i. slice_get (h (file i)) (x.1 i)) ∙ at)) in
      let way : d.way ≡ e.way = ap (λ (y : Entry). y.way) here in
      subst (λ (z : Asked × ℕ × Way). Came s.ranges (first z.0.file) (h z.0.file) (logs z.0.file) k.cs k.part.lines e.call (hold_in o.call) z.1 z.0 z.2) (λ i. (to i, x.1 i, way i)) d.came

  -- the entries of a part
  entry_there : (f p : ℕ) (e : EntryLine) → entry_at t f p ≡ Some e → (x : Entry) × (slice_get (h f) p ≡ Some x) × (entry_line x ≡ e)
  entry_there f p e at =
      let a = bound (slice_get t.files f) (λ part. slice_get part.entries p) e at in
      let b = part_at h logs 0 s.files f a.0 (ap (λ (l : List FilePart). slice_get l f) (sym r.files) ∙ a.1) in
      let z : 0 + f ≡ f = omega arith in
      in_map entry_line (h f) p e (ap (λ (k : ℕ). slice_get (map entry_line (h k)) p) (sym z) ∙ (ap (λ (q : FilePart). slice_get q.entries p) (sym b.2) ∙ a.2))

  same_op : (f p : ℕ) (e : Entry) → Known f p e → op_in s (entry_line e) ≡ e.op
  same_op f p e k =
      let names = asked_on_file k.cs k.of.call (record { file = f; op = e.op }) k.of.asks in
      ap (λ (o : Option Call). unwrap_or (o >>= op_of (calls_of s e.guest)) ops.Size) (known_call f p e k) ∙ ap (λ (o : Option Op). unwrap_or o ops.Size) ((λ i. op_of (k.calls_are i) k.of.call) ∙ names.op)

  again : (f : ℕ) → map (entry_in s) (map entry_line (h f)) ≡ h f
  again f = same_list _ (h f) (map_len _ (map entry_line (h f)) ∙ map_len entry_line (h f)) (λ n x y a b.
      let u = in_map (entry_in s) (map entry_line (h f)) n x a in
      let v = in_map entry_line (h f) n u.0 u.1 in
      let same : v.0 ≡ y = some_is _ _ (sym v.1 ∙ b) in
      let op = same_op f n v.0 (know f n v.0 v.1) in
      sym u.2 ∙ (ap (entry_in s) (sym v.2) ∙ ((λ i. record v.0 { op = op i }) ∙ same)))

  abbrev the_past : ℕ → Past
  the_past f = record { first = first f; history = h f; log = logs f }

  -- what the transcript tells of a file is its history and its log
  past_is : (f : ℕ) → f < length s.files → past_at (pasts s t) f ≡ the_past f
  past_is f lt =
      let x = found s.files f lt in
      let z : 0 + f ≡ f = omega arith in
      let part : slice_get t.files f ≡ Some (part_of h logs f x.0) = ap (λ (l : List FilePart). slice_get l f) r.files ∙ part_there h logs 0 s.files f x.0 x.1 ∙ ap (λ (k : ℕ). Some (part_of h logs k x.0)) z in
      let past : slice_get (pasts s t) f ≡ Some (past_of s (part_of h logs f x.0)) = map_at (past_of s) t.files f (part_of h logs f x.0) part in
      ap (λ (o : Option Past). unwrap_or o no_past) past ∙ (λ i. record { first = r.firsts f x.0 x.1 i; history = again f i; log = logs f })

  -- ---- the rules

  forms : (g n : ℕ) (l : Line) → line_at t g n ≡ Some l → fits_at s g n l ≡ true
  unfolding fits
  forms g n l e = let x = find g n l e in let c = x.call in each g n l x (λ c. fits c l)
      (λ d. ap (fits c) (line_is g n l x d) ∙ (on g n l x d).fits (bytes (first d.to.file) (h d.to.file) d.place))
      (in_cases g n l x (λ c. fits c l) (record {
        granted = λ b. ap (fits c) (says_so g n l x _ b.line) ∙ held_is_hold c b.held b.asks;
        given_back = λ b. ap (fits c) (says_so g n l x _ b.line) ∙ (releases_hold c b.hold b.gives).1;
        blocked = λ b. ap (fits c) (says_so g n l x _ b.line) ∙ b.takes;
        leased = λ b. ap (fits c) (says_so g n l x _ b.line) ∙ b.truncates;
        without_hold = λ b. ap (fits c) (says_so g n l x _ b.line) ∙ ap (λ (o : Option ℕ). is_some o) b.uses;
        past_end = λ b. ap (fits c) (says_so g n l x _ b.line) ∙ (λ i. is_some (b.uses i) && not (asked_keeps x.cs c b.to b.asks i));
      }))

  have_entries : (g n : ℕ) (l : Line) → line_at t g n ≡ Some l → has_entry_at s t g n l ≡ true
  have_entries g n l e = let x = find g n l e in each g n l x (λ c. has_entry (pasts s t) g n (target (calls_of s g) c) (place_of l))
      (λ d.
      let there : slice_get (past_at (pasts s t) d.to.file).history d.place ≡ Some (the_entry g n d.to.op d.way) = ap (λ (p : Past). slice_get p.history d.place) (past_is d.to.file (in_file g n l x d)) ∙ d.entry in
      (λ i. has_entry (pasts s t) g n (aimed g n l x d i) (place_is g n l x d i))
      ∙ (ap (λ (f : ℕ). names g n (slice_get (past_at (pasts s t) f).history d.place)) (on g n l x d).file
      ∙ (ap (names g n) there ∙ (λ i. eqb-same g i && eqb-same n i))))
      (λ b. ap (has_entry (pasts s t) g n (target (calls_of s g) x.call)) (no_place g n l x b))

  rise : (g n : ℕ) (l : Line) → line_at t g n ≡ Some l → rises_at s t g n l ≡ true
  unfolding rises
  rise g n l e = let x = find g n l e in each g n l x (λ c. rises (calls_of s g) (lines_of t g) n (target (calls_of s g) c) (place_of l))
      (λ d.
      let at : IsPlaced x.cs x.part.lines d.to.file n d.place = record { call = x.call; op = d.to.op; made = x.made; asks = d.asks; line = x.line; told = x.told; place = ap place_of x.is ∙ place_is g n l x d } in
      let low = seen_low g s.ranges first h logs x.cs x.part.lines x.run d.to.file n d.place at in
      (λ i. rises (calls_of s g) (lines_of t g) n (aimed g n l x d i) (place_is g n l x d i))
      ∙ ((λ i. nat_le (seen_before (x.calls_are i) (x.lines_are i) ((on g n l x d).file i) n) d.place) ∙ le-leb _ _ low))
      (λ b. ap (rises (calls_of s g) (lines_of t g) n (target (calls_of s g) x.call)) (no_place g n l x b))

  plain : (g n : ℕ) (l : Line) → line_at t g n ≡ Some l → replies_right s t g n l ≡ true
  unfolding replies
  plain g n l e = let x = find g n l e in each g n l x (λ c. replies (pasts s t) (target (calls_of s g) c) l)
      (λ d.
      let a = answer (bytes (first d.to.file) (h d.to.file) d.place) d.to.op in
      (λ i. replies (pasts s t) (aimed g n l x d i) (line_is g n l x d i))
      ∙ (ap (λ (f : ℕ). is_answer a (reply (past_at (pasts s t) f).first (past_at (pasts s t) f).history d.place)) (on g n l x d).file
      ∙ ((λ i. is_answer a (reply (past_is d.to.file (in_file g n l x d) i).first (past_is d.to.file (in_file g n l x d) i).history d.place))
      ∙ ((λ i. is_answer a (option_map (λ (y : Entry). answer (bytes (first d.to.file) (h d.to.file) d.place) y.op) (d.entry i))) ∙ same_answer-self a))))
      (λ b. quiet (pasts s t) (target (calls_of s g) x.call) l (no_place g n l x b))

  -- what a line tells, by its guest's calls and lines
  abbrev tells_by : (g n : ℕ) (l : Line) → Found g n l → Line → Bool
  tells_by g n l x says = tells t.ranges (pasts s t) x.cs x.part.lines n x.call says

  tells_so : (g n : ℕ) (l : Line) (x : Found g n l) (says : Line) → x.line ≡ record { call = n; line = says } → tells_by g n l x says ≡ true → tells t.ranges (pasts s t) (calls_of s g) (lines_of t g) n x.call l ≡ true
  tells_so g n l x says is e = (λ i. tells t.ranges (pasts s t) (x.calls_are i) (x.lines_are i) n x.call (says_so g n l x says is i)) ∙ e

  -- a hold is granted by a live placement, with a fresh end
  grants_right : (g n : ℕ) (l : Line) (x : Found g n l) (b : Granted g n l x) → grants (pasts s t) x.cs x.part.lines n (Some b.held) b.end b.through ≡ true
  unfolding grants
  grants_right g n l x b =
      let f = b.held.file in
      let lt = r.held_files g n x.cs x.call b.held x.calls_at x.made b.asks in
      let w = was_only (first f) (h f) x.cs x.part.lines f n b.size b.sized in
      let low = seen_under g s.ranges first h logs x.cs x.part.lines x.run f n w.seen w.since in
      let known = w.known in
      let high = next_above g s.ranges first h logs x.cs x.part.lines x.run f n w.seen w.until known in
      let lesser : b.end ≡ min ((b.held.chunk + 1) * chunk_size) (size (first f) (h f) w.seen) = b.lesser ∙ ap (λ (z : ℕ). min ((b.held.chunk + 1) * chunk_size) z) w.is in
      let top : w.seen ≤ min (unwrap_or (next_place x.cs x.part.lines f n) (length (h f))) (length (h f)) = omega (arith, high, known) in
      (λ i. is_live (is_writable b.held.mode) (past_is f lt i).log b.held.chunk b.through.entry b.through.upto
      && is_end (past_is f lt i) b.held.chunk b.end (seen_before x.cs x.part.lines f n) (min (unwrap_or (next_place x.cs x.part.lines f n) (length (past_is f lt i).history)) (length (past_is f lt i).history)))
      ∙ and_from _ _ b.live (ends (the_past f) b.held.chunk b.end (seen_before x.cs x.part.lines f n) (min (unwrap_or (next_place x.cs x.part.lines f n) (length (h f))) (length (h f))) w.seen low top lesser)

  tell : (g n : ℕ) (l : Line) → line_at t g n ≡ Some l → tells_at s t g n l ≡ true
  unfolding tells
  tell g n l e = let x = find g n l e in let c = x.call in let cs = x.cs in let ls = x.part.lines in
      let test : Call → Bool = λ c. tells t.ranges (pasts s t) (calls_of s g) (lines_of t g) n c l in each g n l x test
      (λ d. tells_so g n l x _ d.line (done_tells s.ranges (first d.to.file) (h d.to.file) (logs d.to.file) cs ls n (hold_in c) d.place c d.to d.way refl d.asks d.came))
      (in_cases g n l x test (record {
        granted = λ b. tells_so g n l x _ b.line ((λ i. grants (pasts s t) cs ls n (b.asks i) b.end b.through) ∙ grants_right g n l x b);
        given_back = λ b. tells_so g n l x _ b.line ((λ i. is_some (grant_for cs ls n ((releases_hold c b.hold b.gives).0 i))) ∙ (λ i. is_some (b.had i)));
        blocked = λ b. tells_so g n l x _ b.line (ap (λ (k : ℕ). nat_lt 0 k && length b.letters == k) r.ranges ∙ and_from (nat_lt 0 s.ranges) (length b.letters == s.ranges) (lt-ltb 0 s.ranges b.some) (eq-eqb (length b.letters) s.ranges b.each));
        leased = λ b. tells_so g n l x _ b.line (lt-ltb 0 b.count b.some);
        without_hold = λ b. tells_so g n l x _ b.line ((λ i. is_none (grant_for cs ls n (b.uses i))) ∙ (λ i. is_none (b.none i)));
        past_end = λ b. tells_so g n l x _ b.line ((λ i. is_past (grant_for cs ls n (b.uses i)) (access_ends cs c b.hold b.to b.uses b.asks i) b.grant.end)
            ∙ ((λ i. is_past (b.had i) (Some (end_of b.to.op)) b.grant.end) ∙ and_from (b.grant.end == b.grant.end) (nat_lt b.grant.end (end_of b.to.op)) (eqb-same b.grant.end) (lt-ltb b.grant.end (end_of b.to.op) b.past)));
      }))

  named : (f p : ℕ) (e : EntryLine) → entry_at t f p ≡ Some e → is_named s t f p e ≡ true
  unfolding is_done_at
  named f p e at =
      let x = entry_there f p e at in
      let k = know f p x.0 x.1 in
      let o = k.of in
      let here = placed k.cs k.part.lines f x.0.call p (record { call = o.call; op = x.0.op; made = o.made; asks = o.asks; line = o.line; told = o.told; place = o.place }) in
      subst (λ (z : EntryLine). is_named s t f p z ≡ true) x.2
      ((λ i. is_done_at (k.calls_are i) (k.lines_are i) f x.0.call p) ∙ (ap (is_at p) here ∙ eqb-same p))

  came : (f p : ℕ) (e : EntryLine) → entry_at t f p ≡ Some e → came_right s t f p e ≡ true
  came f p e at =
      let x = entry_there f p e at in
      let k = know f p x.0 x.1 in
      let o = k.of in
      let ls = k.part.lines in
      let n = x.0.call in
      let lt : f < length s.files = r.in_files x.0.guest n k.cs o.call (record { file = f; op = x.0.op }) k.calls_at o.made o.asks in
      subst (λ (z : EntryLine). came_right s t f p z ≡ true) x.2
      ((λ i. way_fits (r.ranges i) (past_is f lt i) (k.calls_are i) (k.lines_are i) f p n (known_call f p x.0 k i) x.0.way)
      ∙ way_right s.ranges (the_past f) k.cs ls n p x.0.way o.call (record { file = f; op = x.0.op }) o.asks
      (seen_under x.0.guest s.ranges first h logs k.cs ls k.run f n) (known_way f p x.0 k x.1))

  unbroken : (f : ℕ) (part : FilePart) → slice_get t.files f ≡ Some part → unsound_at t.ranges part.log ≡ None
  unbroken f part at =
      let b = part_at h logs 0 s.files f part (ap (λ (l : List FilePart). slice_get l f) (sym r.files) ∙ at) in
      let z : 0 + f ≡ f = omega arith in
      (λ i. unsound_at (r.ranges i) (b.2 i).log) ∙ (ap (λ (k : ℕ). unsound_at s.ranges (logs k)) z ∙ r.sound f (within s.files f b.0 b.1))

  pub legal : IsLegal s t
  legal = record {
    ranges = r.ranges;
    files = ap (map file_line) r.files ∙ file_lines h logs 0 s.files;
    guests = same_list _ _ (map_len _ t.guests ∙ (r.count ∙ sym (range_len 0 (length s.guests)))) (λ g x y a b.
        let u = in_map (λ (p : GuestPart). p.guest) t.guests g x a in
        let cs = found s.guests g (let w = within t.guests g u.0 u.1 in let k = r.count in omega arith) in
        let p = r.guests g cs.0 u.0 cs.1 u.1 in
        let z = in_range 0 (length s.guests) g y b in
        let n = p.number in let e = u.2 in omega arith);
    calls = same_list _ _ (map_len _ t.guests ∙ (r.count ∙ sym (map_len _ s.guests))) (λ g x y a b.
        let u = in_map (λ (p : GuestPart). map (λ n. n.call) p.lines) t.guests g x a in
        let v = in_map (λ (cs : List Call). range_with_len 0 (length cs)) s.guests g y b in
        let its = r.guests g v.0 u.0 v.1 u.1 in
        sym u.2 ∙ (same_list _ _ (map_len _ u.0.lines ∙ (its.count ∙ sym (range_len 0 (length v.0)))) (λ n i j a' b'.
        let l = in_map (λ (k : Numbered). k.call) u.0.lines n i a' in
        let c = found v.0 n (let w = within u.0.lines n l.0 l.1 in let k = its.count in omega arith) in
        let z = in_range 0 (length v.0) n j b' in
        let q = numbered g s.ranges first h logs v.0 u.0.lines its.run n c.0 l.0 (its.run.told n c.0 l.0 c.1 l.1) in let e = l.2 in omega arith) ∙ v.2));
    fitting = forms;
    entries = have_entries;
    rising = rise;
    replies = plain;
    telling = tell;
    named = named;
    ways = came;
    sound = unbroken;
  }
