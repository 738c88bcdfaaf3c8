-- Guests that ran, and every pass back at the first ones.
use Rattle.std.proofs.Common.{◌≡◌, ◌≢◌, ◌∙◌, ap, sym, subst, refl, ℕ, ◌<◌, ◌≤◌, List, ◌++◌, length, take, drop, slice_get, Option, Some, Result, Ok, Err, arith, lt_of_not-le}
use Rattle.std.specs.Prelude.{IfSome, IfOk}
use Rattle.std.proofs.lemmas.List.{take-append-le, append_assoc}
use Rattle.std.proofs.Math.Seq.{take-length}
use mathlib.Core.Logic.{dite}
use mathlib.Core.Option as maybe
use mathlib.Core.Option.{some}
use native.Mathlib.Decide.{ℕ_discrete, dec_le}
use lib.ListN.{get_elem?}
use Rattle.seats.specs.Views.{Given, unused, opened, out, back, root, guests as all_numbers}
use Rattle.files_core.specs.Laws.{Begins}
use Rattle.file_share.specs.Known.{Known as FilesKnown}
use Rattle.range_share.specs.Steps.{branch_of}
use Rattle.range_share.specs.Known.{Known as RangesKnown}
use Rattle.dax_script.specs.declared.scripts.Call.{Call}
use Rattle.transcript_text.specs.declared.transcripts.GuestPart.{GuestPart}
use Rattle.transcript_text.specs.declared.transcripts.Numbered.{Numbered}
use Rattle.guest_run.proofs.Places.{some_is, within, found}
use Rattle.guest_threads.specs.declared.jobs.Job.{Job}
use Rattle.guest_threads.specs.Jobs.{Team, IsTeam, AreOut, HaveRun, IsTold, CanJoinAll, HasJoined, AreTold, AreCallsOf, AreFirst, AreLater, AreSeated, AreBack, IsReturned, Returned, files_out, ranges_out, firsts_of, count_of, stand_of}
use Rattle.guest_threads.proofs.Seating.{first_out, number_unused, number_root, number_none, can_join_out}
use Rattle.guest_threads.proofs.Boarding.{can_join_ran, told_run, told_barred, told_held_up}

-- ---- lists

pub begins_on : {A : Type 0} (xs ys zs : List A) → Begins xs ys → Begins ys zs → Begins xs zs
begins_on xs ys zs (r, a) (s, b) = (r ++ s, sym (append_assoc xs r s) ∙ (ap (λ (l : List _). l ++ s) a ∙ b))

-- what is written over a whole slice
pub back_in : {A : Type 0} (new old : List A) (len : ℕ) → length new ≡ length old → len ≡ length old → take len (new ++ drop (length new) old) ≡ new
back_in new old len a b =
    let l : len ≡ length new = omega (arith, a, b) in
    ap (λ (n : ℕ). take n (new ++ drop (length new) old)) l ∙ (take-append-le (length new) new (drop (length new) old) (omega arith) ∙ take-length new)

pub if_ok : {A E : Type 0} (r : Result A E) (P Q : A → Type 0) → IfOk r P → ((x : A) → P x → Q x) → IfOk r Q
if_ok (Ok x) P Q p f = f x p
if_ok (Err e) P Q p f = tt

-- ---- passes as they were before

pub later_on : (p : FilesKnown) (q : RangesKnown) (p' : FilesKnown) (q' : RangesKnown) (p'' : FilesKnown) (q'' : RangesKnown) → AreLater p q p' q' → AreLater p' q' p'' q'' → AreLater p q p'' q''
later_on p q p' q' p'' q'' a b = record {
  first = b.first;
  files_table = b.files_table ∙ a.files_table;
  ranges_table = b.ranges_table ∙ a.ranges_table;
  firsts = b.firsts ∙ a.firsts;
  files_long = b.files_long ∙ a.files_long;
  ranges_long = b.ranges_long ∙ a.ranges_long;
  logs_long = b.logs_long ∙ a.logs_long;
  logs = λ f. begins_on (branch_of q.view f).seen (branch_of q'.view f).seen (branch_of q''.view f).seen (a.logs f) (b.logs f);
}

-- ---- no number is out

unused_in : {M X : Type 0} (o : maybe.Option (Given M X)) → o ≡ some unused → o ≡ some out → ⊥
unused_in o a b = cc

opened_in : {M X : Type 0} (o : maybe.Option (Given M X)) → o ≡ some opened → o ≡ some out → ⊥
opened_in o a b = cc

back_not_out : {M X : Type 0} (o : maybe.Option (Given M X)) (m : M) (x : X) → o ≡ some (back m x) → o ≡ some out → ⊥
back_not_out o m x a b = cc

-- a number from there on isn't out
not_out : (t : Team) (k n : ℕ) → IsTeam t → k ≤ t.guests → k ≤ n
    → (get_elem? (files_out t.files k).view.numbers n ≢ some out) × (get_elem? (ranges_out t.ranges k).view.numbers n ≢ some out)
not_out t k n is few past = dite (dec_le all_numbers n)
    (λ big. number_none t k n is few big)
    (λ small. dite (ℕ_discrete n root)
    (λ same. let z = number_root t k is few in (
      λ e. opened_in (get_elem? (files_out t.files k).view.numbers root) z.0 (ap (λ (i : ℕ). get_elem? (files_out t.files k).view.numbers i) (sym same) ∙ e),
      λ e. opened_in (get_elem? (ranges_out t.ranges k).view.numbers root) z.1 (ap (λ (i : ℕ). get_elem? (ranges_out t.ranges k).view.numbers i) (sym same) ∙ e),
    ))
    (λ other. let z = number_unused t k n is few past (lt_of_not-le small) other in
    (unused_in (get_elem? (files_out t.files k).view.numbers n) z.0, unused_in (get_elem? (ranges_out t.ranges k).view.numbers n) z.1)))

module _ (t : Team) (k : ℕ) (is : IsTeam t) (few : k ≤ t.guests) (jobs : List Job) (all : length jobs ≡ k) (p : FilesKnown) (q : RangesKnown)
    (j : HasJoined (files_out t.files k) (ranges_out t.ranges k) jobs (length jobs) p q) where
  joined_none : (n : ℕ) → (get_elem? p.view.numbers n ≢ some out) × (get_elem? q.view.numbers n ≢ some out)
  joined_none n = dite (dec_le (length jobs) n)
      (λ far. let z = not_out t k n is few (omega (arith, far, all)) in (λ e. z.0 (sym (j.files_rest n far) ∙ e), λ e. z.1 (sym (j.ranges_rest n far) ∙ e)))
      (λ near. let lt = lt_of_not-le near in let x = found jobs n lt in let l = j.left n x.0 lt x.1 in
      (back_not_out (get_elem? p.view.numbers n) l.mine l.refusals l.files_back, back_not_out (get_elem? q.view.numbers n) l.moved l.noted l.ranges_back))

  -- all passes that were out are back
  pub joined_back : AreBack t p q
  joined_back = record {
    later = later_on t.files t.ranges (files_out t.files k) (ranges_out t.ranges k) p q (first_out t k is few) j.later;
    files_in = (j.later.first.files_root, λ n. (joined_none n).0);
    ranges_in = (j.later.first.ranges_root, λ n. (joined_none n).1);
  }

-- none was split off
none_out : (t : Team) → IsTeam t → AreBack t t.files t.ranges
unfolding files_out ranges_out
none_out t is =
    let later = first_out t 0 is (omega arith) in record {
      later = later;
      files_in = (later.first.files_root, λ n. (not_out t 0 n is (omega arith) (omega arith)).0);
      ranges_in = (later.first.ranges_root, λ n. (not_out t 0 n is (omega arith) (omega arith)).1);
    }

pub none_back : (t : Team) (p : FilesKnown) (q : RangesKnown) → IsTeam t → (p ≡ t.files) × (q ≡ t.ranges) → AreBack t p q
none_back t p q is same = subst (λ (z : FilesKnown × RangesKnown). AreBack t z.0 z.1) (λ i. (sym same.0 i, sym same.1 i)) (none_out t is)

-- as many as these jobs were
module _ (t : Team) (jobs : List Job) (p : FilesKnown) (q : RangesKnown) (is : IsTeam t) (few : length jobs ≤ t.guests)
    (files : p ≡ files_out t.files (length jobs)) (ranges : q ≡ ranges_out t.ranges (length jobs)) where
  pub split_later : AreLater t.files t.ranges p q
  split_later = subst (λ (z : FilesKnown × RangesKnown). AreLater t.files t.ranges z.0 z.1) (λ i. (sym files i, sym ranges i)) (first_out t (length jobs) is few)

  pub split_join : AreOut t (length jobs) jobs → CanJoinAll p q jobs
  split_join are_out = subst (λ (z : FilesKnown × RangesKnown). CanJoinAll z.0 z.1 jobs) (λ i. (sym files i, sym ranges i)) (can_join_out t jobs is few are_out)

  pub split_back : (p' : FilesKnown) (q' : RangesKnown) → HasJoined p q jobs (length jobs) p' q' → AreBack t p' q'
  split_back p' q' joined = joined_back t (length jobs) is few jobs refl p' q'
      (subst (λ (z : FilesKnown × RangesKnown). HasJoined z.0 z.1 jobs (length jobs) p' q') (λ i. (files i, ranges i)) joined)

-- all were split off
pub seated_all : (t : Team) (guests : List (List Call)) (jobs : List Job) (p : FilesKnown) (q : RangesKnown) → IsTeam t → t.guests ≡ length guests → AreCallsOf (length (firsts_of t)) (count_of t) guests
    → AreOut t (length jobs) jobs → length jobs ≡ t.guests → p ≡ files_out t.files (length jobs) → q ≡ ranges_out t.ranges (length jobs) → AreSeated t guests jobs p q
seated_all t guests jobs p q is all calls are_out many files ranges = record {
  is_team = is;
  all = all;
  calls = calls;
  are_out = subst (λ (k : ℕ). AreOut t k jobs) many are_out;
  files = files ∙ ap (files_out t.files) many;
  ranges = ranges ∙ ap (ranges_out t.ranges) many;
}

-- ---- guests that ran

module _ (t : Team) (guests : List (List Call)) (old new : List Job) (p : FilesKnown) (q : RangesKnown) (s : AreSeated t guests old p q) (ran : HaveRun guests old new) where
  -- the first passes while the others are out
  pub seated_join : CanJoinAll p q new
  seated_join = subst (λ (z : FilesKnown × RangesKnown). CanJoinAll z.0 z.1 new) (λ i. (sym s.files i, sym s.ranges i)) (can_join_ran t guests old new s.is_team s.all s.are_out ran)

  pub seated_first : AreFirst p q
  seated_first = subst (λ (z : FilesKnown × RangesKnown). AreFirst z.0 z.1) (λ i. (sym s.files i, sym s.ranges i)) (first_out t t.guests s.is_team (omega arith)).first

  module _ (p' : FilesKnown) (q' : RangesKnown) (joined : HasJoined p q new (length new) p' q') where
    all_joined : HasJoined (files_out t.files t.guests) (ranges_out t.ranges t.guests) new (length new) p' q'
    all_joined = subst (λ (z : FilesKnown × RangesKnown). HasJoined z.0 z.1 new (length new) p' q') (λ i. (s.files i, s.ranges i)) joined

    as_many : length new ≡ t.guests
    as_many = ran.0 ∙ s.are_out.0

    pub ran_back : AreBack t p' q'
    ran_back = joined_back t t.guests s.is_team (omega arith) new as_many p' q' all_joined

    module _ (parts : List GuestPart) (told : AreTold new parts) where
      one_told : (g : ℕ) (cs : List Call) (part : GuestPart) (j k : Job) → g < t.guests → slice_get guests g ≡ Some cs → slice_get parts g ≡ Some part
          → slice_get old g ≡ Some j → slice_get new g ≡ Some k → IsTold (stand_of j) (stand_of k) cs part.lines
      one_told g cs part j k lt at at' has has' =
          let run = subst (λ (z : Option (List Numbered)). IfSome z (λ ls. (ds : List Call) × (slice_get guests g ≡ Some ds) × IsTold (stand_of j) (stand_of k) ds ls))
          (told.1 g k part has' at').1 (ran.1 g j k has has').told in
          subst (λ (z : List Call). IsTold (stand_of j) (stand_of k) z part.lines) (some_is run.0 cs (sym run.1 ∙ at)) run.2

      pub its_table : (g : ℕ) (k : Job) → slice_get new g ≡ Some k → k.guest.dax.files.pass.table ≡ t.files.table
      its_table g k has = ((can_join_ran t guests old new s.is_team s.all s.are_out ran).each g k has).files_table ∙ (first_out t t.guests s.is_team (omega arith)).files_table

      one_of : (g : ℕ) (cs : List Call) (part : GuestPart) (j k : Job) → g < t.guests → slice_get guests g ≡ Some cs → slice_get parts g ≡ Some part
          → slice_get old g ≡ Some j → slice_get new g ≡ Some k → IsReturned t g cs part p' q'
      one_of g cs part j k lt at at' has has' =
          let o = s.are_out.1 g j has in
          let its = one_told g cs part j k lt at at' has has' in record {
            number = (told.1 g k part has' at').0;
            count = its.count;
            job = k;
            table = its_table g k has';
            left = joined.left g k (within new g k has') has';
            run = told_run t g j k cs part.lines s.is_team lt o its;
            barred = told_barred t g j k cs part.lines s.is_team lt o its;
            held_up = told_held_up t g j k cs part.lines s.is_team lt o its;
            printable = its.printable;
          }

      one_returned : (g : ℕ) (cs : List Call) (part : GuestPart) → slice_get guests g ≡ Some cs → slice_get parts g ≡ Some part → IsReturned t g cs part p' q'
      one_returned g cs part at at' =
          let lt : g < t.guests = (let w = within guests g cs at in omega (arith, w, s.all)) in
          let (j, has) = found old g (omega (arith, lt, s.are_out.0)) in
          let (k, has') = found new g (omega (arith, lt, as_many)) in
          one_of g cs part j k lt at at' has has'

      pub ran_returned : Returned t guests p' q' parts
      ran_returned = record {
        count = told.0 ∙ (as_many ∙ s.all);
        each = one_returned;
        others = λ n far small other.
            let past : t.guests ≤ n = omega (arith, far, s.all) in
            all_joined.files_rest n (omega (arith, past, as_many)) ∙ (number_unused t t.guests n s.is_team (omega arith) past small other).0;
      }
