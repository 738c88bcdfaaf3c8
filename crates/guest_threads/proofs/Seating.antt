-- Passes that are split off the first ones of both tables, and the first ones meanwhile.
use Rattle.std.proofs.Common.{◌≡◌, ◌≢◌, ◌∙◌, ap, sym, subst, ℕ, ◌<◌, ◌≤◌, List, [], length, append-nil, arith}
use mathlib.Core.Option.{some}
use lib.ListN.{get_elem?}
use Rattle.seats.specs.Views.{unused, out, opened, root, guests as all_numbers}
use Rattle.files_core.specs.Good.{Within}
use Rattle.files_core.specs.Shown.{Shown}
use Rattle.window_core.specs.Shown.{Branch}
use Rattle.file_share.specs.Table.{Mine as FilesMine}
use Rattle.range_share.specs.Table.{Mine as RangesMine, branch_in}
use Rattle.range_share.specs.Steps.{branch_of}
use Rattle.guest_run.proofs.Places.{none_is, within}
use Rattle.guest_threads.specs.declared.jobs.Job.{Job}
use Rattle.guest_threads.specs.Jobs.{Team, IsTeam, AreOut, AreLater, CanJoinAll, files_out, ranges_out}
use Rattle.guest_threads.proofs.Split.{outs_at, outs_else, at_first, first_unused, first_root, first_past, files_table, ranges_table, files_mine, ranges_mine, files_root_is, ranges_root_is, files_marks, ranges_marks, part_is, branch_is, moves_is, pins_are, can_join_new}

-- the first passes have nothing in hand, and are the same but for their numbers
pub first_out : (t : Team) (k : ℕ) → IsTeam t → k ≤ t.guests → AreLater t.files t.ranges (files_out t.files k) (ranges_out t.ranges k)
first_out t k is few = record {
  first = record {
    files_root = files_root_is t is k;
    ranges_root = ranges_root_is t is k;
    files_idle = λ f. let e = part_is t is k f in (ap (λ (m : Shown). m.turn) e, ap (λ (m : Shown). m.leases) e, ap (λ (m : Shown). m.bar) e);
    ranges_idle = record { moves = moves_is t is k; trees = λ f. ap (λ (b : Branch). b.had) (branch_is t is k f); pins = pins_are t is k };
    own = λ f. subst (λ (m : Shown). Within root 0 m.seen) (sym (part_is t is k f)) (λ n e at own. absurd (none_is e at));
  };
  files_table = files_table t.files k;
  ranges_table = ranges_table t.ranges k;
  firsts = ap (λ (m : FilesMine). m.firsts) (files_mine t.files k);
  files_long = ap (λ (m : FilesMine). length m.files) (files_mine t.files k);
  ranges_long = ap (λ (m : RangesMine). length m.shown.moving) (ranges_mine t.ranges k);
  logs_long = ap (λ (m : RangesMine). length m.shown.branches) (ranges_mine t.ranges k);
  logs = λ f. ([], append-nil (branch_of t.ranges.view f).seen ∙ sym (ap (λ (m : RangesMine). (branch_in m.shown.branches f).seen) (ranges_mine t.ranges k)));
}

-- a number below is out, and one from there on nobody had, but for the first's
pub number_out : (t : Team) (k n : ℕ) → IsTeam t → k ≤ t.guests → n < k → (get_elem? (files_out t.files k).view.numbers n ≡ some out) × (get_elem? (ranges_out t.ranges k).view.numbers n ≡ some out)
number_out t k n is few below = let low = is.few in (
  ap (λ ns. get_elem? ns n) (files_marks t is k) ∙ outs_at at_first k (λ m l. first_unused m (omega arith) (λ e. absurd (omega arith))) n below,
  ap (λ ns. get_elem? ns n) (ranges_marks t is k) ∙ outs_at at_first k (λ m l. first_unused m (omega arith) (λ e. absurd (omega arith))) n below,
)

pub number_unused : (t : Team) (k n : ℕ) → IsTeam t → k ≤ t.guests → k ≤ n → n < all_numbers → n ≢ root → (get_elem? (files_out t.files k).view.numbers n ≡ some unused) × (get_elem? (ranges_out t.ranges k).view.numbers n ≡ some unused)
number_unused t k n is few past small other = (
  ap (λ ns. get_elem? ns n) (files_marks t is k) ∙ (outs_else at_first k n past ∙ first_unused n small other),
  ap (λ ns. get_elem? ns n) (ranges_marks t is k) ∙ (outs_else at_first k n past ∙ first_unused n small other),
)

pub number_root : (t : Team) (k : ℕ) → IsTeam t → k ≤ t.guests → (get_elem? (files_out t.files k).view.numbers root ≡ some opened) × (get_elem? (ranges_out t.ranges k).view.numbers root ≡ some opened)
number_root t k is few = let low = is.few in (
  ap (λ ns. get_elem? ns root) (files_marks t is k) ∙ (outs_else at_first k root (omega arith) ∙ first_root),
  ap (λ ns. get_elem? ns root) (ranges_marks t is k) ∙ (outs_else at_first k root (omega arith) ∙ first_root),
)

pub number_none : (t : Team) (k n : ℕ) → IsTeam t → k ≤ t.guests → all_numbers ≤ n → (get_elem? (files_out t.files k).view.numbers n ≢ some out) × (get_elem? (ranges_out t.ranges k).view.numbers n ≢ some out)
number_none t k n is few past = let low = is.few in (
  (λ e. first_past n out past (sym (ap (λ ns. get_elem? ns n) (files_marks t is k) ∙ outs_else at_first k n (omega arith)) ∙ e)),
  (λ e. first_past n out past (sym (ap (λ ns. get_elem? ns n) (ranges_marks t is k) ∙ outs_else at_first k n (omega arith)) ∙ e)),
)

-- jobs that did nothing can be joined again
pub can_join_out : (t : Team) (jobs : List Job) → IsTeam t → length jobs ≤ t.guests → AreOut t (length jobs) jobs → CanJoinAll (files_out t.files (length jobs)) (ranges_out t.ranges (length jobs)) jobs
can_join_out t jobs is few are_out = record {
  few = let low = is.few in omega arith;
  each = λ n j at. let near = within jobs n j at in can_join_new t (length jobs) n j is (omega arith) (are_out.1 n j at);
  files_out = λ n below. (number_out t (length jobs) n is few below).0;
  ranges_out = λ n below. (number_out t (length jobs) n is few below).1;
}
