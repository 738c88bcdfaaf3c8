-- What the first passes have seen when all others are in: it is all.
use Rattle.std.proofs.Common.{◌≡◌, ◌≢◌, inl, inr, ◌∙◌, ap, sym, subst, refl, ℕ, suc, ◌+◌, ◌<◌, ◌≤◌, Bool, false, List, [], ◌∷◌, length, map, slice_get, Some, if◌then◌else◌, arith, lt_of_not-le}
use Rattle.std.specs.Prelude.{IsTrue}
use Rattle.std.specs.List.{AllByRecursion}
use Rattle.std.proofs.lemmas.List.{get_or_past, length-map, length-replicate}
use mathlib.Core.Logic.{dite}
use native.Mathlib.Decide.{ℕ_discrete, dec_le}
use Rattle.atomic_table.specs.Seated.{TableId}
use Rattle.seats.specs.Views.{root, guests as all_numbers}
use Rattle.plain_file.specs.declared.operations.Answer.{Answer}
use Rattle.plain_file.specs.declared.operations.Entry.{Entry}
use Rattle.plain_file.specs.declared.operations.First.{First}
use Rattle.plain_file.specs.Board.{Note, FileView, no_file, file_at}
use Rattle.plain_file.specs.Sound.{IsFresh}
use Rattle.page_map.specs.declared.ranges.LogEntry.{LogEntry}
use Rattle.page_map.specs.declared.ranges.LogEntry.TheVariants as entries
use Rattle.page_map.specs.Board.{log_at}
use Rattle.page_map.specs.Logs.{sound}
use Rattle.files_core.specs.Files.{new_file, new_files}
use Rattle.files_core.specs.Shown.{Shown}
use Rattle.file_share.specs.Table.{first_of, first_in, nothing_of, unseen}
use Rattle.file_share.specs.Known.{Known as FilesKnown, first_pass as first_files}
use Rattle.file_share.specs.Boards.{file_view}
use Rattle.file_share.proofs.Listing.{length_listed}
use Rattle.range_share.specs.Table.{new_core, no_branch, not_moving, nothing_of as no_side_of}
use Rattle.range_share.specs.Boards.{log_of}
use Rattle.range_share.specs.Steps.{ranges_of, files_of}
use Rattle.range_share.specs.Known.{Known as RangesKnown, first_pass as first_ranges}
use Rattle.fuse_device.specs.State.{State}
use Rattle.guest_wire.specs.declared.driver.FileRef.{FileRef}
use Rattle.guest_dax.specs.Pinning.{PlacesIn}
use Rattle.dax_script.specs.Asks.{is_hold, hold_places}
use Rattle.dax_script.specs.declared.scripts.Call.{Call}
use Rattle.dax_script.specs.declared.scripts.Call.TheVariants as calls
use Rattle.transcript_text.specs.declared.transcripts.GuestPart.{GuestPart}
use Rattle.transcript_text.specs.declared.transcripts.Line.{Line}
use Rattle.transcript_text.specs.declared.transcripts.Line.TheVariants as lines
use Rattle.transcript_text.specs.declared.transcripts.Numbered.{Numbered}
use Rattle.plain_file.specs.declared.operations.Through.{Through}
use Rattle.transcript_text.specs.TranscriptReading.{IsPrintableGuest}
use Rattle.guest_run.specs.Runs.{IsTold, IsRunFrom, IsPart, GoesOn, LogGoesOn}
use Rattle.guest_run.specs.Working.{IsCall, AreCalls, AreHeldUp, IsHeldRange, IsFair, AllDone, history_at, notes_at}
use Rattle.guest_run.proofs.Places.{none_is, within, found, front}
use Rattle.guest_run.proofs.Guests.{AreSettled, settled}
use Rattle.guest_run.proofs.Unheld.{unheld_done}
use Rattle.guest_threads.specs.Jobs.{Team, team, IsTeam, IsServed, AreCallsOf, AreBack, IsReturned, Returned, AreRead, history_seen, log_seen, firsts_of, count_of, leasers_for, stand_of}
use Rattle.guest_threads.specs.Ran.{HasRun}

-- ---- lists

all_of : {A : Type 0} (P : A → Type 0) (xs : List A) → ((n : ℕ) (x : A) → slice_get xs n ≡ Some x → P x) → AllByRecursion P xs
all_of P [] each = tt
all_of P (x ∷ xs) each = (each 0 x refl, all_of P xs (λ n y at. each (suc n) y at))

-- ---- the tables as they are opened

firsts_same : (n : ℕ) (xs : List First) → map first_of (new_files n xs) ≡ xs
firsts_same n [] = refl
firsts_same n (x ∷ xs) = ap (λ (l : List First). x ∷ l) (firsts_same n xs)

pub firsts_new : (t : TableId) (p : FilesKnown) (firsts : List First) (leasers : ℕ) → p ≡ first_files t firsts leasers → p.view.mine.firsts ≡ firsts
firsts_new t p firsts leasers new = ap (λ (x : FilesKnown). x.view.mine.firsts) new ∙ firsts_same all_numbers firsts

files_long : (t : TableId) (p : FilesKnown) (firsts : List First) (leasers : ℕ) → p ≡ first_files t firsts leasers → length p.view.mine.files ≡ length firsts
files_long t p firsts leasers new = ap (λ (x : FilesKnown). length x.view.mine.files) new ∙ (length-map (new_files all_numbers firsts) nothing_of ∙ length-map firsts (new_file all_numbers))

pub ranges_new : (t : TableId) (q : RangesKnown) (ranges files movers : ℕ) → q ≡ first_ranges t ranges files movers → ranges_of q.view ≡ ranges
ranges_new t q ranges files movers new =
    ap (λ (x : RangesKnown). ranges_of x.view) new ∙ (length-map (new_core ranges files movers).window.states not_moving ∙ length-replicate ranges _)

logs_long : (t : TableId) (q : RangesKnown) (ranges files movers : ℕ) → q ≡ first_ranges t ranges files movers → files_of q.view ≡ files
logs_long t q ranges files movers new =
    ap (λ (x : RangesKnown). files_of x.view) new ∙ (length-map (new_core ranges files movers).window.sides no_side_of ∙ length-replicate files _)

pub opened_team : (s : State) (refs : List FileRef) (t u : TableId) (p : FilesKnown) (q : RangesKnown) (firsts : List First) (leasers ranges width guests : ℕ)
    → p ≡ first_files t firsts leasers → q ≡ first_ranges u ranges width guests → leasers ≡ leasers_for ranges guests → width ≡ length firsts → t.slots ≡ length firsts
    → guests ≤ 17 → length firsts ≤ 64 → ranges ≤ 256 → ranges ≢ 1 → IsServed s refs (length firsts) ranges → IsTeam (team s refs p q guests)
opened_team s refs t u p q firsts leasers ranges width guests new new' may wide slots few files_few ranges_few not_one served =
    let same : p.view.mine.firsts ≡ firsts = firsts_new t p firsts leasers new in
    let count : ranges_of q.view ≡ ranges = ranges_new u q ranges width guests new' in
    let table : p.table ≡ t = ap (λ (x : FilesKnown). x.table) new in
    let table' : q.table ≡ u = ap (λ (x : RangesKnown). x.table) new' in record {
      few = few;
      files_few = omega (arith, files_few, ap (λ (l : List First). length l) same);
      ranges_few = omega (arith, ranges_few, count);
      not_one = λ e. not_one (sym count ∙ e);
      files_new = new ∙ (ap (first_files t firsts) may ∙ (λ i. first_files (sym table i) (sym same i) (leasers_for (sym count i) guests)));
      ranges_new = new' ∙ (ap (λ (n : ℕ). first_ranges u ranges n guests) wide ∙ (λ i. first_ranges (sym table' i) (sym count i) (length (sym same i)) guests));
      slots = ap (λ (x : TableId). x.slots) table ∙ (slots ∙ ap (λ (l : List First). length l) (sym same));
      served = subst (λ (z : List First × ℕ). IsServed s refs (length z.0) z.1) (λ i. (sym same i, sym count i)) served;
    }

-- ---- what holds a guest up, in a longer log

places_on : (log log' : List LogEntry) (entry chunk range : ℕ) → LogGoesOn log log' → PlacesIn log entry chunk range → PlacesIn log' entry chunk range
places_on log log' entry chunk range on (mode, at) = (mode, ap (λ (xs : List LogEntry). slice_get xs entry) on.1 ∙ front log on.0 entry (entries.Place chunk range mode) at)

module _ (ranges : ℕ) (logs logs' : ℕ → List LogEntry) (cs : List Call) (ls : List Numbered) (on : (f : ℕ) → LogGoesOn (logs f) (logs' f)) where
  range_on : (n range : ℕ) → IsHeldRange logs cs ls n range → IsHeldRange logs' cs ls n range
  range_on n range r = record {
    hold = r.hold;
    held = r.held;
    grant = r.grant;
    by = r.by;
    had = r.had;
    entry = places_on (logs r.held.file) (logs' r.held.file) r.grant.through.entry r.held.chunk range (on r.held.file) r.entry;
  }

  held_up_on : AreHeldUp ranges logs cs ls → AreHeldUp ranges logs' cs ls
  held_up_on up n c l letters at at' is = let u = up n c l letters at at' is in record {
    pinned = u.pinned;
    missing = u.missing;
    two = u.two;
    each = λ range lt apart. range_on n range (u.each range lt apart);
    file = u.file;
    chunk = u.chunk;
    needs = u.needs;
    unheld = u.unheld;
  }

-- ---- without ranges

done_busy : (place : ℕ) (a : Answer) (letters : List ℕ) → lines.Done place a ≡ lines.Busy letters → ⊥
done_busy place a letters e = cc

held_busy : (end : ℕ) (through : Through) (letters : List ℕ) → lines.Held end through ≡ lines.Busy letters → ⊥
held_busy end through letters e = cc

released_busy : (letters : List ℕ) → lines.Released ≡ lines.Busy letters → ⊥
released_busy letters e = cc

leased_busy : (count : ℕ) (letters : List ℕ) → lines.Leased count ≡ lines.Busy letters → ⊥
leased_busy count letters e = cc

no_hold_busy : (letters : List ℕ) → lines.NoHold ≡ lines.Busy letters → ⊥
no_hold_busy letters e = cc

past_busy : (end : ℕ) (letters : List ℕ) → lines.Past end ≡ lines.Busy letters → ⊥
past_busy end letters e = cc

tells : (l : Numbered) (n : ℕ) (x : Line) (letters : List ℕ) → l ≡ record { call = n; line = x } → l.line ≡ lines.Busy letters → x ≡ lines.Busy letters
tells l n x letters is busy = sym (ap (λ (y : Numbered). y.line) is) ∙ busy

module _ (guest ranges : ℕ) (first : ℕ → First) (h : ℕ → List Entry) (logs : ℕ → List LogEntry) (notes : ℕ → List Note) (cs : List Call) (ls : List Numbered) (none : ranges ≡ 0) where
  never_busy : (n : ℕ) (c : Call) (l : Numbered) (letters : List ℕ) → IsTold guest ranges first h logs notes cs ls n c l → l.line ≡ lines.Busy letters → ⊥
  never_busy n c l letters (inl d) busy = done_busy _ _ letters (tells l n _ letters d.line busy)
  never_busy n c l letters (inr (inl g)) busy = held_busy g.end g.through letters (tells l n _ letters g.line busy)
  never_busy n c l letters (inr (inr (inl g))) busy = released_busy letters (tells l n _ letters g.line busy)
  never_busy n c l letters (inr (inr (inr (inl b)))) busy = let some_range = b.some in absurd (omega (arith, some_range, none))
  never_busy n c l letters (inr (inr (inr (inr (inl b))))) busy = leased_busy b.count letters (tells l n _ letters b.line busy)
  never_busy n c l letters (inr (inr (inr (inr (inr (inl b)))))) busy = no_hold_busy letters (tells l n _ letters b.line busy)
  never_busy n c l letters (inr (inr (inr (inr (inr (inr b)))))) busy = past_busy b.grant.end letters (tells l n _ letters b.line busy)

  unheld_up : (from : ℕ → ℕ) → IsRunFrom guest ranges first from h logs notes cs ls → AreHeldUp ranges logs cs ls
  unheld_up from run n c l letters at at' busy = absurd (never_busy n c l letters (run.told n c l at at') busy)

not_hold : (files ranges : ℕ) (cs : List Call) (n : ℕ) (c : Call) → ranges ≡ 0 → IsCall files ranges cs n c → is_hold c ≡ false
unfolding IsCall is_hold
not_hold files ranges cs n (calls.Read file off len) none is = refl
not_hold files ranges cs n (calls.Write file off bytes) none is = refl
not_hold files ranges cs n (calls.Fill file off len byte) none is = refl
not_hold files ranges cs n (calls.Size file) none is = refl
not_hold files ranges cs n (calls.Truncate file size) none is = refl
not_hold files ranges cs n (calls.Hold file chunk mode) none is = let lt = is.2 in absurd (omega (arith, lt, none))
not_hold files ranges cs n (calls.Load hold off len) none is = refl
not_hold files ranges cs n (calls.Store hold off bytes) none is = refl
not_hold files ranges cs n (calls.Release hold) none is = refl

no_places : (m : ℕ) (cs : List Call) → ((n : ℕ) (c : Call) → slice_get cs n ≡ Some c → is_hold c ≡ false) → hold_places m cs ≡ []
unfolding hold_places
no_places m [] each = refl
no_places m (c ∷ cs) each =
    ap (λ (b : Bool). if b then m ∷ hold_places (m + 1) cs else hold_places (m + 1) cs) (each 0 c refl) ∙ no_places (m + 1) cs (λ n d at. each (suc n) d at)

-- ---- what the first passes have seen

module _ (t : Team) (guests : List (List Call)) (p : FilesKnown) (q : RangesKnown) (parts : List GuestPart)
    (is : IsTeam t) (all : t.guests ≡ length guests) (calls_of : AreCallsOf (length (firsts_of t)) (count_of t) guests) (back : AreBack t p q) (ret : Returned t guests p q parts)
    (read : AreRead p q (length (firsts_of t))) where
  -- where there is such a file, and where there is none
  by_file : (P : ℕ → Type 0) → ((f : ℕ) → f < length (firsts_of t) → P f) → ((f : ℕ) → length (firsts_of t) ≤ f → P f) → (f : ℕ) → P f
  by_file P near far f = dite (dec_le (length (firsts_of t)) f) (λ le. far f le) (λ not_le. near f (lt_of_not-le not_le))

  no_history : (f : ℕ) → length (firsts_of t) ≤ f → history_seen p f ≡ []
  no_history f far =
      let n = back.later.files_long ∙ files_long t.files.table t.files (firsts_of t) (leasers_for (count_of t) t.guests) is.files_new in
      ap (λ (m : Shown). m.seen) (get_or_past p.view.mine.files f unseen (omega (arith, far, n)))

  no_log : (f : ℕ) → length (firsts_of t) ≤ f → log_seen q f ≡ []
  no_log f far =
      let n = back.later.logs_long ∙ logs_long t.ranges.table t.ranges (count_of t) (length (firsts_of t)) t.guests is.ranges_new in
      ap log_of (get_or_past q.view.mine.shown.branches f no_branch (omega (arith, far, n)))

  -- ---- one guest's part

  module _ (g : ℕ) (cs : List Call) (its : GuestPart) (r : IsReturned t g cs its p q) where
    as_many : length r.job.guest.dax.files.pass.view.mine.files ≡ length (firsts_of t)
    as_many = r.job.guest.dax.files.wide ∙ (ap (λ (x : TableId). x.slots) (sym r.job.guest.dax.files.own ∙ r.table) ∙ is.slots)

    nothing_past : (f : ℕ) → length (firsts_of t) ≤ f → file_at (stand_of r.job).files f ≡ no_file
    nothing_past f far =
        let v = r.job.guest.dax.files.pass.view in
        let n = length_listed (file_view v) (length v.mine.files) in
        get_or_past (stand_of r.job).files.files f no_file (omega (arith, far, n, as_many))

    goes_on : (f : ℕ) → GoesOn g (history_at (stand_of r.job).files f) (history_seen p f)
    goes_on = by_file (λ f. GoesOn g (history_at (stand_of r.job).files f) (history_seen p f))
        (λ f near. let (begins, own) = (read f near).account.joined g r.left.mine r.left.refusals r.left.files_back in
        subst (λ (z : List Entry). GoesOn g z (history_seen p f)) (r.left.histories f)
        (begins.0, sym begins.1, own))
        (λ f far. subst (λ (z : List Entry × List Entry). GoesOn g z.0 z.1) (λ i. (sym (ap (λ (x : FileView). x.history) (nothing_past f far)) i, sym (no_history f far) i))
        ([], refl, λ k e at by. absurd (none_is e at)))

    log_goes_on : (f : ℕ) → LogGoesOn (log_at (stand_of r.job).map f) (log_seen q f)
    log_goes_on f = let (more, e) = r.left.logs f in (more, sym e)

    settles : AreSettled (first_in (firsts_of t)) (history_seen p) (notes_at (stand_of r.job).files)
    settles f k note at none = by_file
        (λ f. slice_get (notes_at (stand_of r.job).files f) k ≡ Some note → IsFresh (first_in (firsts_of t) f) (history_seen p f) note.lower (length (history_seen p f)) note.size)
        (λ f near at. let (c, there, same) = r.left.notes f k note at in
        let ok = (read f near).account.notes g k r.left.mine r.left.refusals c r.left.files_back there in
        subst (λ (z : First × Note). IsFresh z.0 (history_seen p f) z.1.lower (length (history_seen p f)) z.1.size) (λ i. (first_in (back.later.firsts i) f, same i))
        (ok.at, ok.above, ok.within, (omega arith), ok.is))
        (λ f far at. absurd (none_is note (ap (λ (x : FileView). slice_get x.notes k) (sym (nothing_past f far)) ∙ at)))
        f at

    one_part : IsPart (count_of t) (first_in (firsts_of t)) (history_seen p) (log_seen q) g cs its
    one_part = record {
      number = r.number;
      count = r.count;
      run = settled g (count_of t) (first_in (firsts_of t)) (λ f. 0) (history_at (stand_of r.job).files) (history_seen p) (log_at (stand_of r.job).map) (log_seen q)
          (notes_at (stand_of r.job).files) cs its.lines goes_on log_goes_on settles r.run;
    }

    one_fair : t.guests ≡ 1 → IsFair (count_of t) (log_seen q) cs its.lines
    one_fair alone = record {
      barred = r.barred (inl alone);
      held_up = held_up_on (count_of t) (log_at (stand_of r.job).map) (log_seen q) cs its.lines log_goes_on (r.held_up alone);
    }

    one_done : count_of t ≡ 0 → AreCalls (length (firsts_of t)) (count_of t) cs → AllDone its.lines
    one_done none may =
        let first = first_in (firsts_of t) in
        let h = history_at (stand_of r.job).files in
        let logs = log_at (stand_of r.job).map in
        let notes = notes_at (stand_of r.job).files in
        let fair : IsFair (count_of t) logs cs its.lines = record {
          barred = r.barred (inr none);
          held_up = unheld_up g (count_of t) first h logs notes cs its.lines none (λ f. 0) r.run;
        } in
        unheld_done g (count_of t) first (λ f. 0) h logs notes cs its.lines r.run r.count fair is.not_one
        (no_places 0 cs (λ n c at. not_hold (length (firsts_of t)) (count_of t) cs n c none (may n c at)))

  -- ---- all of them

  known : (f n : ℕ) (e : Entry) → slice_get (history_seen p f) n ≡ Some e → e.guest < length guests
  known = by_file (λ f. (n : ℕ) (e : Entry) → slice_get (history_seen p f) n ≡ Some e → e.guest < length guests)
      (λ f near n e at.
      let a = (read f near).account in
      dite (dec_le (length guests) e.guest)
      (λ high. dite (ℕ_discrete e.guest root)
      (λ same. let lt = back.later.first.own f n e at same in absurd (omega (arith, lt)))
      (λ other. let lt = a.never e.guest (ret.others e.guest high (a.small n e at) other) n e at refl in absurd (omega (arith, lt))))
      (λ low. lt_of_not-le low))
      (λ f far n e at. absurd (none_is e (ap (λ (h : List Entry). slice_get h n) (sym (no_history f far)) ∙ at)))

  one_printable : (n : ℕ) (x : GuestPart) → slice_get parts n ≡ Some x → IsPrintableGuest x
  one_printable n x at =
      let lt : n < length guests = (let w = within parts n x at in omega (arith, w, ret.count)) in
      let (cs, has) = found guests n lt in
      let r = ret.each n cs x has at in record {
        guest = omega (arith, lt, all, is.few, r.number);
        lines = r.printable;
      }

  pub all_run : HasRun (firsts_of t) (count_of t) 0 guests (history_seen p) (log_seen q) parts
  all_run = record {
    sound_logs = λ f near. subst (λ (n : ℕ). IsTrue (sound n (log_seen q f))) back.later.ranges_long (read f near).sound_log;
    no_more = no_log;
    count = ret.count;
    runs = λ g cs x at at'. one_part g cs x (ret.each g cs x at at');
    known = known;
    fair = λ none alone g cs x at at'. one_fair g cs x (ret.each g cs x at at') (all ∙ alone);
    done = λ none g cs x at at'. one_done g cs x (ret.each g cs x at at') none (calls_of g cs at).1;
    printable = all_of IsPrintableGuest parts one_printable;
  }
