-- What the boards of a new job are, and what its work makes of them.
use Rattle.std.proofs.Common.{◌≡◌, ◌∙◌, ◌⊎◌, ap, sym, subst, ℕ, ◌<◌, ◌≤◌, List, length, arith}
use Rattle.plain_file.specs.declared.operations.First.{First}
use Rattle.page_map.specs.Board.{log_at}
use Rattle.range_tree.specs.Ranges.{range_count}
use Rattle.file_share.specs.Table.{first_in}
use Rattle.file_share.specs.Known.{Known as FilesKnown}
use Rattle.file_share.specs.Boards.{numbers_of as files_numbers}
use Rattle.range_share.specs.Known.{Known as RangesKnown}
use Rattle.range_share.specs.Boards.{numbers_of as ranges_numbers}
use Rattle.dax_script.specs.declared.scripts.Call.{Call}
use Rattle.transcript_text.specs.declared.transcripts.Numbered.{Numbered}
use Rattle.guest_wire.specs.declared.driver.FileRef.{FileRef}
use Rattle.guest_dax.specs.Stands.{Stand}
use Rattle.guest_io.specs.declared.guest.Holds.{Holds}
use Rattle.guest_run.specs.Runs.{IsRunFrom}
use Rattle.guest_run.specs.Working.{IsIdle, TakesAlone, AreBarred, AreHeldUp, first_at, history_at, notes_at}
use Rattle.guest_run.proofs.Places.{some_is, within, found}
use Rattle.guest_threads.specs.declared.jobs.Job.{Job}
use Rattle.guest_threads.specs.Jobs.{Team, IsTeam, AreCallsOf, IsOut, AreOut, MayWork, MayRun, HaveRun, HasWorked, IsTold, CanJoin, CanJoinAll, files_out, ranges_out, firsts_of, count_of, leasers_for, stand_of}
use Rattle.guest_threads.proofs.Seating.{number_out}
use Rattle.guest_threads.proofs.Fresh.{same_table, files_table, ranges_table, fresh_first, fresh_history, fresh_ranges_count, stand_is, idle_fresh, leases_alone, takes_alone}

-- ---- the stand of a new job

module _ (t : Team) (g : ℕ) (j : Job) (is : IsTeam t) (o : IsOut t g j) where
  -- it has the team's ranges, and of each file its first contents and no entry
  pub ranges_new : range_count (stand_of j).map ≡ count_of t
  ranges_new = ap (λ (s : Stand). range_count s.map) (stand_is t g j is o) ∙ fresh_ranges_count t.ranges.table (count_of t) (length (firsts_of t)) t.guests g

  pub first_new : (f : ℕ) → first_at (stand_of j).files f ≡ first_in (firsts_of t) f
  first_new f = ap (λ (s : Stand). first_at s.files f) (stand_is t g j is o) ∙ fresh_first t.files.table (firsts_of t) (leasers_for (count_of t) t.guests) g f

  pub history_new : (f : ℕ) → length (history_at (stand_of j).files f) ≡ 0
  history_new f = ap (λ (s : Stand). length (history_at s.files f)) (stand_is t g j is o) ∙ ap length (fresh_history t.files.table (firsts_of t) (leasers_for (count_of t) t.guests) g f)

  pub guest_new : (stand_of j).files.guest ≡ g
  guest_new = ap (λ (s : Stand). s.files.guest) (stand_is t g j is o)

  -- the passes are of the team's tables, with this number
  files_table_new : j.guest.dax.files.pass.table ≡ t.files.table
  files_table_new = ap (λ (p : FilesKnown). p.table) o.files ∙ files_table t.files g

  ranges_table_new : j.guest.dax.ranges.pass.table ≡ t.ranges.table
  ranges_table_new = ap (λ (p : RangesKnown). p.table) o.ranges ∙ ranges_table t.ranges g

  idle_new : g < t.guests → IsIdle (stand_of j) j.guest.dax.refs j.guest.holds
  idle_new lt =
      let s = stand_is t g j is o in
      subst (λ (x : Stand × List FileRef × Holds). IsIdle x.0 x.1 x.2) (λ i. (sym s i, sym o.refs i, sym o.holds i)) (idle_fresh t g is lt)

-- a new job's guest may make its calls
pub may_work : (t : Team) (guests : List (List Call)) (n : ℕ) (j : Job) → IsTeam t → t.guests ≡ length guests → AreCallsOf (length (firsts_of t)) (count_of t) guests → n < t.guests → IsOut t n j → MayWork guests n j
may_work t guests n j is all calls lt o =
    let files : length (firsts_of t) ≡ length j.guest.dax.refs = sym (ap length o.refs ∙ is.served.refs_of) in
    let ranges : count_of t ≡ range_count (stand_of j).map = sym (ranges_new t n j is o) in
    record {
      there = subst (λ (k : ℕ). n < k) all lt;
      few = subst (λ (k : ℕ). k ≤ 17) all is.few;
      idle = idle_new t n j is o lt;
      fresh = ap (λ (h : Holds). h.asked) o.holds;
      calls = subst (λ (x : ℕ × ℕ). AreCallsOf x.0 x.1 guests) (λ i. (files i, ranges i)) calls;
    }

pub may_run : (t : Team) (guests : List (List Call)) (jobs : List Job) → IsTeam t → t.guests ≡ length guests → AreCallsOf (length (firsts_of t)) (count_of t) guests → AreOut t t.guests jobs → MayRun guests jobs
may_run t guests jobs is all calls o n j at =
    let lt : n < t.guests = (let w = within jobs n j at in let k = o.0 in omega (arith, w, k)) in
    may_work t guests n j is all calls lt (o.1 n j at)

-- ---- a job that was worked on

-- it can be joined
pub can_join_worked : (t : Team) (guests : List (List Call)) (n : ℕ) (old new : Job) → IsTeam t → n < t.guests → IsOut t n old → HasWorked guests n old new → CanJoin (files_out t.files t.guests) (ranges_out t.ranges t.guests) n new
can_join_worked t guests n old new is lt o w =
    let f = new.guest.dax.files.pass.table in
    let f' = old.guest.dax.files.pass.table in
    let r = new.guest.dax.ranges.pass.table in
    let r' = old.guest.dax.ranges.pass.table in
    let files_same : f ≡ f' = same_table f f' (some_is (files_numbers f) (files_numbers f') w.rest.files.over) in
    let ranges_same : r ≡ r' = same_table r r' (some_is (ranges_numbers r) (ranges_numbers r') w.rest.map.over) in
    record {
      home = w.idle.home;
      holds = w.idle.holds;
      unbarred = w.idle.unbarred;
      treeless = w.idle.tree;
      resting = w.idle.moves;
      files_table = files_same ∙ files_table_new t n old is o ∙ sym (files_table t.files t.guests);
      ranges_table = ranges_same ∙ ranges_table_new t n old is o ∙ sym (ranges_table t.ranges t.guests);
      files_guest = w.rest.files.guest ∙ ap (λ (p : FilesKnown). p.view.guest) o.files;
      ranges_guest = w.rest.map.guest ∙ ap (λ (p : RangesKnown). p.view.guest) o.ranges;
    }

pub can_join_ran : (t : Team) (guests : List (List Call)) (old new : List Job) → IsTeam t → t.guests ≡ length guests → AreOut t t.guests old → HaveRun guests old new → CanJoinAll (files_out t.files t.guests) (ranges_out t.ranges t.guests) new
can_join_ran t guests old new is all o ran =
    let long : length new ≡ t.guests = ran.0 ∙ o.0 in
    record {
      few = (let k = is.few in omega (arith, long, k));
      each = λ n j at.
          let lt : n < t.guests = (let w = within new n j at in omega (arith, long, w)) in
          let x = found old n (let k = o.0 in omega (arith, lt, k)) in
          can_join_worked t guests n x.0 j is lt (o.1 n x.0 x.1) (ran.1 n x.0 j x.1 at);
      files_out = λ n lt. (number_out t t.guests n is (omega arith) (omega (arith, lt, long))).0;
      ranges_out = λ n lt. (number_out t t.guests n is (omega arith) (omega (arith, lt, long))).1;
    }

-- ---- what a job tells, as its team reads it

pub told_run : (t : Team) (g : ℕ) (old new : Job) (cs : List Call) (ls : List Numbered) → IsTeam t → g < t.guests → IsOut t g old → IsTold (stand_of old) (stand_of new) cs ls
    → IsRunFrom g (count_of t) (first_in (firsts_of t)) (λ f. 0) (history_at (stand_of new).files) (log_at (stand_of new).map) (notes_at (stand_of new).files) cs ls
told_run t g old new cs ls is lt o told =
    let who = guest_new t g old is o in
    let count = ranges_new t g old is o in
    let first = first_new t g old is o in
    let from = history_new t g old is o in
    let s = stand_of new in
    subst (λ (x : ℕ × ℕ × (ℕ → First) × (ℕ → ℕ)). IsRunFrom x.0 x.1 x.2 x.3 (history_at s.files) (log_at s.map) (notes_at s.files) cs ls)
    (λ i. (who i, count i, λ f. first f i, λ f. from f i))
    told.run

pub told_barred : (t : Team) (g : ℕ) (old new : Job) (cs : List Call) (ls : List Numbered) → IsTeam t → g < t.guests → IsOut t g old → IsTold (stand_of old) (stand_of new) cs ls → (t.guests ≡ 1) ⊎ (count_of t ≡ 0) → AreBarred cs ls
told_barred t g old new cs ls is lt o told alone = told.barred (ap (λ (s : Stand). s.files.others) (stand_is t g old is o) ∙ leases_alone (count_of t) t.guests g lt alone)

pub told_held_up : (t : Team) (g : ℕ) (old new : Job) (cs : List Call) (ls : List Numbered) → IsTeam t → g < t.guests → IsOut t g old → IsTold (stand_of old) (stand_of new) cs ls → t.guests ≡ 1 → AreHeldUp (count_of t) (log_at (stand_of new).map) cs ls
told_held_up t g old new cs ls is lt o told alone =
    let count = ranges_new t g old is o in
    let takes : TakesAlone (stand_of old) = record {
      others = ap (λ (s : Stand). s.map.ranges.others) (stand_is t g old is o) ∙ takes_alone t.guests g lt alone;
      count = λ one. is.not_one (sym count ∙ one);
    } in
    subst (λ (k : ℕ). AreHeldUp k (log_at (stand_of new).map) cs ls) count (told.held_up takes)
