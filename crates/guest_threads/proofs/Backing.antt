-- A background beside the guests of a team: one more member, who makes no calls.
use Rattle.std.proofs.Common.{◌≡◌, ◌≢◌, ◌∙◌, ⊎_elim, inl, inr, ap, sym, subst, refl, ℕ, zero, suc, ◌+◌, ◌<◌, ◌≤◌, List, [], ◌∷◌, ◌++◌, length, take, slice_get, Some, arith, length-append, lt_of_not-le}
use Rattle.std.specs.List.{AllByRecursion}
use Rattle.std.proofs.lemmas.Bool.{eq-eqb, ne_eqb}
use Rattle.std.proofs.lemmas.List.{length-take-le}
use mathlib.Core.Logic.{dite}
use native.Mathlib.Decide.{ℕ_discrete, dec_le}
use Rattle.plain_file.specs.Board.{BoardView}
use Rattle.plain_file.specs.declared.operations.Entry.{Entry}
use Rattle.plain_file.specs.declared.operations.First.{First}
use Rattle.page_map.specs.declared.ranges.LogEntry.{LogEntry}
use Rattle.page_map.specs.Board.{log_at}
use Rattle.range_tree.specs.Ranges.{range_count}
use Rattle.dax_script.specs.declared.scripts.Call.{Call}
use Rattle.transcript_text.specs.declared.transcripts.GuestPart.{GuestPart}
use Rattle.transcript_text.specs.TranscriptReading.{IsPrintableGuest}
use Rattle.file_share.specs.Known.{Known as FilesKnown}
use Rattle.range_share.specs.Known.{Known as RangesKnown}
use Rattle.fuse_device.specs.State.{State}
use Rattle.guest_wire.specs.declared.driver.FileRef.{FileRef}
use Rattle.guest_dax.specs.Stands.{Stand}
use Rattle.guest_run.specs.Runs.{IsRunFrom}
use Rattle.guest_run.specs.Working.{AreCalls, first_at, history_at, notes_at, max_calls}
use Rattle.guest_run.proofs.Places.{none_is, at_end, within, found, front, in_take}
use Rattle.guest_run.proofs.Guests.{begun}
use Rattle.guest_run.proofs.Fairness.{barred_none, held_up_none}
use Rattle.guest_threads.specs.declared.jobs.Job.{Job}
use Rattle.guest_threads.specs.Jobs.{Team, team, IsTeam, AreBack, Returned, AreCallsOf, AreOut, IsTold, MaySweep, MayAllTakePart, team_of, firsts_of, count_of}
use Rattle.guest_threads.specs.Ran.{HasRun}
use Rattle.guest_threads.proofs.Boarding.{may_run, ranges_new}

-- ---- the members of a team

pub team_alone : (background : ℕ) (guests : List (List Call)) → background ≡ 0 → team_of background guests ≡ guests
unfolding team_of
team_alone background guests none = rw (eq-eqb background 0 none) refl

pub team_more : (background : ℕ) (guests : List (List Call)) → background ≢ 0 → team_of background guests ≡ guests ++ [] ∷ []
unfolding team_of
team_more background guests some = rw (ne_eqb background 0 some) refl

more_by : (P : List (List Call) → Type 0) (background : ℕ) (guests : List (List Call)) → P guests → P (guests ++ [] ∷ []) → P (team_of background guests)
more_by P background guests alone more = dite (ℕ_discrete background 0)
    (λ none. subst P (sym (team_alone background guests none)) alone)
    (λ some. subst P (sym (team_more background guests some)) more)

-- they are as many as the guests, or one more
pub team_many : (background : ℕ) (guests : List (List Call)) → (length guests ≤ length (team_of background guests)) × (length (team_of background guests) ≤ length guests + 1)
team_many background guests = more_by (λ l. (length guests ≤ length l) × (length l ≤ length guests + 1)) background guests
    (omega arith, omega arith)
    (let n = length-append guests ([] ∷ []) in (omega (arith, n), omega (arith, n)))

pub team_len : (background : ℕ) (guests : List (List Call)) → background ≢ 0 → length (team_of background guests) ≡ length guests + 1
team_len background guests some = ap length (team_more background guests some) ∙ length-append guests ([] ∷ [])

-- each guest has its number, and the other has no calls
pub team_here : (background : ℕ) (guests : List (List Call)) (n : ℕ) (cs : List Call) → slice_get guests n ≡ Some cs → slice_get (team_of background guests) n ≡ Some cs
team_here background guests n cs at = more_by (λ l. slice_get l n ≡ Some cs) background guests at (front guests ([] ∷ []) n cs at)

pub team_rest : (background : ℕ) (guests : List (List Call)) (n : ℕ) (cs : List Call) → length guests ≤ n → slice_get (team_of background guests) n ≡ Some cs → [] ≡ cs
team_rest background guests n cs past = more_by (λ l. slice_get l n ≡ Some cs → [] ≡ cs) background guests
    (λ at. let lt = within guests n cs at in absurd (omega (arith, lt, past)))
    (λ at. ⊎_elim (λ in_front. let lt = within guests n cs in_front in absurd (omega (arith, lt, past))) (λ last. last.1) (at_end guests [] cs n at))

pub team_last : (background : ℕ) (guests : List (List Call)) (n : ℕ) → length guests ≤ n → n < length (team_of background guests) → slice_get (team_of background guests) n ≡ Some []
team_last background guests n past lt =
    let (cs, at) = found (team_of background guests) n lt in
    at ∙ ap Some (sym (team_rest background guests n cs past at))

no_calls : (files ranges : ℕ) → (length {A = Call} [] ≤ max_calls) × AreCalls files ranges []
no_calls files ranges = (omega arith, λ n c at. absurd (none_is c at))

pub team_calls : (files ranges background : ℕ) (guests : List (List Call)) → AreCallsOf files ranges guests → AreCallsOf files ranges (team_of background guests)
team_calls files ranges background guests calls = more_by (AreCallsOf files ranges) background guests calls
    (λ n cs at. ⊎_elim (λ here. calls n cs here) (λ last. subst (λ (c : List Call). (length c ≤ max_calls) × AreCalls files ranges c) last.1 (no_calls files ranges)) (at_end guests [] cs n at))

-- a team of as many members is the same
module _ (daemon : State) (refs : List FileRef) (p : FilesKnown) (q : RangesKnown) (n m : ℕ) (same : n ≡ m) where
  pub team_as : IsTeam (team daemon refs p q n) → IsTeam (team daemon refs p q m)
  team_as is = subst (λ (k : ℕ). IsTeam (team daemon refs p q k)) same is

  pub back_as : (p' : FilesKnown) (q' : RangesKnown) → AreBack (team daemon refs p q n) p' q' → AreBack (team daemon refs p q m) p' q'
  back_as p' q' back = subst (λ (k : ℕ). AreBack (team daemon refs p q k) p' q') same back

  pub returned_as : (guests : List (List Call)) (p' : FilesKnown) (q' : RangesKnown) (parts : List GuestPart) → Returned (team daemon refs p q n) guests p' q' parts → Returned (team daemon refs p q m) guests p' q' parts
  returned_as guests p' q' parts ret = subst (λ (k : ℕ). Returned (team daemon refs p q k) guests p' q' parts) same ret

-- its members may make their calls, and the other its turns
pub may_take_part : (t : Team) (background : ℕ) (guests : List (List Call)) (jobs : List Job) → IsTeam t → t.guests ≡ length (team_of background guests)
    → AreCallsOf (length (firsts_of t)) (count_of t) (team_of background guests) → AreOut t t.guests jobs → MaySweep background (count_of t) → MayAllTakePart background guests jobs
may_take_part t background guests jobs is all calls are_out sweep n j at = (
  may_run t (team_of background guests) jobs is all calls are_out n j at,
  subst (λ (k : ℕ). MaySweep background k) (sym (ranges_new t n j is (are_out.1 n j at))) sweep,
)

-- where a number is no guest's, there are ranges
pub sweeps_there : (background : ℕ) (guests : List (List Call)) (n ranges : ℕ) → length guests ≤ n → n < length (team_of background guests) → MaySweep background ranges → 0 < ranges
sweeps_there background guests n ranges past lt (inl none) = let same = ap length (team_alone background guests none) in absurd (omega (arith, past, lt, same))
sweeps_there background guests n ranges past lt (inr some) = some

-- ---- what the background tells

-- no lines of no calls, where nothing was entered into a file
pub told_none : (s u : Stand) → u.files ≡ s.files → IsTold s u [] []
told_none s u same = record {
  run = subst (λ (v : BoardView). IsRunFrom s.files.guest (range_count s.map) (first_at s.files) (λ f. length (history_at v f)) (history_at u.files) (log_at u.map) (notes_at u.files) [] []) same
      (begun s.files.guest (range_count s.map) (first_at s.files) (history_at u.files) (log_at u.map) (notes_at u.files) []);
  count = refl;
  barred = λ alone. barred_none [];
  held_up = λ alone. held_up_none (range_count s.map) (log_at u.map) [];
  printable = tt;
}

-- ---- the guests' parts alone

all_taken : {A : Type 0} (P : A → Type 0) (n : ℕ) (xs : List A) → AllByRecursion P xs → AllByRecursion P (take n xs)
all_taken P zero xs all = tt
all_taken P (suc n) [] all = tt
all_taken P (suc n) (x ∷ xs) all = (all.0, all_taken P n xs all.1)

-- the entries are those of the guests, since the background made no calls
module _ (firsts : List First) (ranges background : ℕ) (guests : List (List Call)) (h : ℕ → List Entry) (logs : ℕ → List LogEntry) (parts : List GuestPart)
    (ran : HasRun firsts ranges 0 (team_of background guests) h logs parts) where
  by_guest : (f n : ℕ) (e : Entry) → slice_get (h f) n ≡ Some e → e.guest < length guests
  by_guest f n e at =
      let lt = ran.known f n e at in
      dite (dec_le (length guests) e.guest)
      (λ past.
      let (cs, has) = found (team_of background guests) e.guest lt in
      let (part, told) = found parts e.guest (let many = ran.count in omega (arith, lt, many)) in
      let of = (ran.runs e.guest cs part has told).run.only f n e (omega arith) at refl in
      absurd (none_is of.call (ap (λ (c : List Call). slice_get c e.call) (team_rest background guests e.guest cs past has) ∙ of.made)))
      (λ low. lt_of_not-le low)

  pub guests_run : HasRun firsts ranges background guests h logs (take (length guests) parts)
  guests_run = record {
    sound_logs = ran.sound_logs;
    no_more = ran.no_more;
    count = length-take-le (length guests) parts (let many = ran.count in let few = (team_many background guests).0 in omega (arith, many, few));
    runs = λ g cs part at at'. ran.runs g cs part (team_here background guests g cs at) (in_take (length guests) parts g part at').1;
    known = by_guest;
    fair = λ none alone g cs part at at'. ran.fair refl (ap length (team_alone background guests none) ∙ alone) g cs part (team_here background guests g cs at) (in_take (length guests) parts g part at').1;
    done = λ none g cs part at at'. ran.done none g cs part (team_here background guests g cs at) (in_take (length guests) parts g part at').1;
    printable = all_taken IsPrintableGuest (length guests) parts ran.printable;
  }
