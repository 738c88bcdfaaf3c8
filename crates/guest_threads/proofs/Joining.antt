-- Passes that come back: what the first ones keep of one job and of all, and what the jobs told.
use Rattle.std.proofs.Common.{◌≡◌, ◌≢◌, ◌∙◌, ⊎_elim, ap, sym, subst, refl, ℕ, zero, suc, ◌+◌, ◌<◌, arith, List, [], ◌∷◌, ◌++◌, length, get_or, slice_get, sum, Some, None, append-nil, length-append}
use mathlib.Core.Logic.{dite}
use mathlib.Core.Option.{some}
use native.Mathlib.Decide.{ℕ_discrete}
use lib.ListN.{get_elem?}
use Rattle.seats.specs.Views.{out, IsOut}
use Rattle.page_map.specs.declared.ranges.LogEntry.{LogEntry}
use Rattle.page_map.specs.Board.{log_at}
use Rattle.file_share.specs.Table.{part, first_at}
use Rattle.file_share.specs.Known.{Known as FilesKnown, IsIdle as FilesIdle, IsSoundPart, TookIn as FilesTaken}
use Rattle.file_share.specs.Boards.{board_of as files_board, file_view}
use Rattle.file_share.proofs.Listing.{length_listed}
use Rattle.range_share.specs.Table.{IsIdle as RangesIdle}
use Rattle.range_share.specs.Steps.{IsShowing, branch_of}
use Rattle.range_share.specs.Known.{Known as RangesKnown, TookIn as RangesTaken}
use Rattle.range_share.specs.Boards.{board_of as ranges_board}
use Rattle.files_core.specs.Laws.{Begins}
use Rattle.guest_wire.specs.Wires.{WireView}
use Rattle.guest_wire.specs.declared.driver.FileRef.{FileRef}
use Rattle.guest_dax.specs.Stands.{stand}
use Rattle.guest_io.specs.Requests.{IsHome}
use Rattle.guest_io.specs.Holds.{LeavesRest, SameEntries}
use Rattle.guest_io.specs.Going.{KeepsRefusals}
use Rattle.guest_run.proofs.Places.{some_is, within, at_end}
use Rattle.transcript_text.specs.declared.transcripts.GuestPart.{GuestPart}
use Rattle.transcript_text.specs.declared.transcripts.Numbered.{Numbered}
use Rattle.guest_threads.specs.declared.jobs.Job.{Job}
use Rattle.guest_threads.specs.Jobs.{AreFirst, AreLater, AreTold, CanJoin, CanJoinAll, HasJoined, HasLeft, JoinsOne, stand_of}
use Rattle.guest_threads.proofs.JoiningFiles.{same_table, files_idle, seen_shown, refusals_shown, note_shown, files_table, files_guest, files_long, files_still, files_own, files_back, files_else}
use Rattle.guest_threads.proofs.JoiningLogs.{ranges_idle, log_shown, begins_on, ranges_table, ranges_guest, ranges_long, logs_long, ranges_still, ranges_back, ranges_else}

-- ---- one job

-- The passes of a job whose guest gave back its holds: of these tables and with this number, and with nothing in hand.
-- They know what its boards had seen and noted.
pub record IsFinished (p : FilesKnown) (q : RangesKnown) (n : ℕ) (j : Job) (o : FilesKnown) (r : RangesKnown) : Type 0 where
  pub files_table : o.table ≡ p.table
  pub ranges_table : r.table ≡ q.table
  pub files_guest : o.view.guest ≡ n
  pub ranges_guest : r.view.guest ≡ n
  pub files_idle : FilesIdle o.view
  pub treeless : (ranges_board r).hands.tree ≡ None
  pub resting : (ranges_board r).hands.moves ≡ None
  pub unpinned : sum (ranges_board r).hands.pins ≡ 0
  pub entries : SameEntries (stand_of j).files (files_board o)
  pub logs : (ranges_board r).ranges.logs ≡ (stand_of j).map.ranges.logs
  pub many : length (files_board o).files ≡ length (stand_of j).files.files
  pub refusals : KeepsRefusals (stand_of j).files (files_board o)
  pub rounds : (ranges_board r).ranges.rounds ≡ (stand_of j).map.ranges.rounds
  pub sweeps : (ranges_board r).ranges.sweeps ≡ (stand_of j).map.ranges.sweeps

pub finished : (p : FilesKnown) (q : RangesKnown) (n : ℕ) (j : Job) → CanJoin p q n j → (w : WireView) (refs : List FileRef) (o : FilesKnown) (r : RangesKnown)
    → IsHome (stand w (files_board o) (ranges_board r)) refs → LeavesRest (stand_of j) (stand w (files_board o) (ranges_board r)) → SameEntries (stand_of j).files (files_board o)
    → (ranges_board r).ranges.logs ≡ (stand_of j).map.ranges.logs → sum (ranges_board r).hands.pins ≡ 0 → sum (files_board o).hands.leases ≡ 0
    → KeepsRefusals (stand_of j).files (files_board o) → (ranges_board r).ranges.rounds ≡ (stand_of j).map.ranges.rounds → (ranges_board r).ranges.sweeps ≡ (stand_of j).map.ranges.sweeps → IsFinished p q n j o r
finished p q n j can w refs o r home rest entries logs pins leases refusals rounds sweeps = record {
  files_table = same_table o.table j.guest.dax.files.pass.table rest.files.over ∙ can.files_table;
  ranges_table = same_table r.table j.guest.dax.ranges.pass.table rest.map.over ∙ can.ranges_table;
  files_guest = rest.files.guest ∙ can.files_guest;
  ranges_guest = rest.map.guest ∙ can.ranges_guest;
  files_idle = files_idle o home.stands.turn (rest.files.bar ∙ can.unbarred) leases;
  treeless = rest.map.tree ∙ can.treeless;
  resting = rest.map.moves ∙ can.resting;
  unpinned = pins;
  entries = entries;
  logs = logs;
  many = rest.files.count;
  refusals = refusals;
  rounds = rounds;
  sweeps = sweeps;
}

pub finished_idle : (p : FilesKnown) (q : RangesKnown) (n : ℕ) (j : Job) (o : FilesKnown) (r : RangesKnown) → IsFinished p q n j o r → IsShowing r.view → RangesIdle r.view.mine
finished_idle p q n j o r fin shows = ranges_idle r shows fin.treeless fin.resting fin.unpinned

-- the first passes took in one pass of each table
later_one : (p o p' : FilesKnown) (q r q' : RangesKnown) → AreFirst p q → FilesTaken p o p' → RangesTaken q r q' → AreLater p q p' q'
later_one p o p' q r q' first files ranges = record {
  first = record {
    files_root = files_guest p o p' files ∙ first.files_root;
    ranges_root = ranges_guest q r q' ranges ∙ first.ranges_root;
    files_idle = files_still p o p' files first.files_idle;
    ranges_idle = ranges_still q r q' ranges first.ranges_idle;
    own = files_own p o p' files first.files_root first.own;
  };
  files_table = files_table p o p' files;
  ranges_table = ranges_table q r q' ranges;
  firsts = files.grown.0;
  files_long = files_long p o p' files;
  ranges_long = ranges_long q r q' ranges;
  logs_long = logs_long q r q' ranges;
  logs = ranges.begun;
}

pub joins_one : (p : FilesKnown) (q : RangesKnown) (n : ℕ) (j : Job) (o : FilesKnown) (r : RangesKnown) (p' : FilesKnown) (q' : RangesKnown)
    → AreFirst p q → get_elem? p.view.numbers n ≡ some out → get_elem? q.view.numbers n ≡ some out → IsFinished p q n j o r
    → ((f : ℕ) → f < length o.view.mine.files → IsSoundPart (first_at o.view f) (part o.view f)) → FilesTaken p o p' → RangesTaken q r q' → JoinsOne p q j n p' q'
joins_one p q n j o r p' q' first files_out ranges_out fin parts files ranges = record {
  later = later_one p o p' q r q' first files ranges;
  left = record {
    mine = o.view.mine;
    refusals = o.view.noted;
    files_back = files_back p o p' files n files_out fin.files_guest;
    histories = λ f. sym (seen_shown o f fin.files_idle parts) ∙ fin.entries.history f;
    notes = λ f k m at. note_shown o f k m (fin.entries.notes f k m at);
    refused = λ f near. refusals_shown o f (let a = fin.many in let b = length_listed (file_view o.view) (length o.view.mine.files) in omega (arith, near, a, b)) ∙ fin.refusals f;
    moved = r.view.mine;
    noted = r.view.noted;
    ranges_back = ranges_back q r q' ranges n ranges_out fin.ranges_guest;
    logs = λ f.
        let same : (branch_of r.view f).seen ≡ log_at (stand_of j).map f = sym (log_shown r f) ∙ ap (λ (l : List (List LogEntry)). get_or l f []) fin.logs in
        subst (λ (l : List LogEntry). Begins l (branch_of q'.view f).seen) same (ranges.other f);
    rounds = fin.rounds;
    sweeps = fin.sweeps;
  };
  files_rest = files_else p o p' files n fin.files_guest;
  ranges_rest = ranges_else q r q' ranges n fin.ranges_guest;
}

-- ---- all jobs

pub later_same : (p : FilesKnown) (q : RangesKnown) → AreFirst p q → AreLater p q p q
later_same p q first = record {
  first = first;
  files_table = refl;
  ranges_table = refl;
  firsts = refl;
  files_long = refl;
  ranges_long = refl;
  logs_long = refl;
  logs = λ f. ([], append-nil (branch_of q.view f).seen);
}

pub later_on : (p : FilesKnown) (q : RangesKnown) (a : FilesKnown) (b : RangesKnown) (c : FilesKnown) (d : RangesKnown) → AreLater p q a b → AreLater a b c d → AreLater p q c d
later_on p q a b c d x y = record {
  first = y.first;
  files_table = y.files_table ∙ x.files_table;
  ranges_table = y.ranges_table ∙ x.ranges_table;
  firsts = y.firsts ∙ x.firsts;
  files_long = y.files_long ∙ x.files_long;
  ranges_long = y.ranges_long ∙ x.ranges_long;
  logs_long = y.logs_long ∙ x.logs_long;
  logs = λ f. begins_on (branch_of q.view f).seen (branch_of b.view f).seen (branch_of d.view f).seen (x.logs f) (y.logs f);
}

-- what is left of a job stays where its number's entries do
pub left_on : (j : Job) (n : ℕ) (a : FilesKnown) (b : RangesKnown) (c : FilesKnown) (d : RangesKnown)
    → HasLeft j n a b → get_elem? c.view.numbers n ≡ get_elem? a.view.numbers n → get_elem? d.view.numbers n ≡ get_elem? b.view.numbers n → AreLater a b c d → HasLeft j n c d
left_on j n a b c d left files ranges later = record {
  mine = left.mine;
  refusals = left.refusals;
  files_back = files ∙ left.files_back;
  histories = left.histories;
  notes = left.notes;
  refused = left.refused;
  moved = left.moved;
  noted = left.noted;
  ranges_back = ranges ∙ left.ranges_back;
  logs = λ f. begins_on (log_at (stand_of j).map f) (branch_of b.view f).seen (branch_of d.view f).seen (left.logs f) (later.logs f);
  rounds = left.rounds;
  sweeps = left.sweeps;
}

pub none_joined : (p : FilesKnown) (q : RangesKnown) (jobs : List Job) → AreFirst p q → HasJoined p q jobs 0 p q
none_joined p q jobs first = record {
  later = later_same p q first;
  left = λ n j near at. absurd (omega (arith, near));
  files_rest = λ n past. refl;
  ranges_rest = λ n past. refl;
}

pub one_joined : (p : FilesKnown) (q : RangesKnown) (a : FilesKnown) (b : RangesKnown) (c : FilesKnown) (d : RangesKnown) (jobs : List Job) (k : ℕ) (j : Job)
    → HasJoined p q jobs k a b → slice_get jobs k ≡ Some j → JoinsOne a b j k c d → HasJoined p q jobs (k + 1) c d
one_joined p q a b c d jobs k j has at one = record {
  later = later_on p q a b c d has.later one.later;
  left = λ n i near at_i. dite (ℕ_discrete n k)
      (λ e. let same : j ≡ i = some_is j i (sym at ∙ (ap (λ m. slice_get jobs m) (sym e) ∙ at_i)) in subst (λ (x : Job). HasLeft x n c d) same (subst (λ m. HasLeft j m c d) (sym e) one.left))
      (λ ne. left_on i n a b c d (has.left n i (below n k near ne) at_i) (one.files_rest n ne) (one.ranges_rest n ne) one.later);
  files_rest = λ n past. one.files_rest n (λ e. absurd (omega (arith, past, e))) ∙ has.files_rest n (omega (arith, past));
  ranges_rest = λ n past. one.ranges_rest n (λ e. absurd (omega (arith, past, e))) ∙ has.ranges_rest n (omega (arith, past));
}
  where
    below : (n k : ℕ) → n < k + 1 → n ≢ k → n < k
    below zero zero l ne = absurd (ne refl)
    below zero (suc k) l ne = omega arith
    below (suc n) zero l ne = absurd (omega (arith, l))
    below (suc n) (suc k) l ne = let h = below n k (omega (arith, l)) (λ e. ne (ap suc e)) in omega (arith, h)

-- the next job can be joined, and its passes are out
pub record IsNext (a : FilesKnown) (b : RangesKnown) (k : ℕ) (j : Job) : Type 0 where
  pub guest : j.guest.dax.files.pass.view.guest ≡ k
  pub can : CanJoin a b j.guest.dax.files.pass.view.guest j
  pub files_out : IsOut a.view j.guest.dax.files.pass.view.guest
  pub ranges_out : IsOut b.view j.guest.dax.files.pass.view.guest

pub next_joins : (p : FilesKnown) (q : RangesKnown) (a : FilesKnown) (b : RangesKnown) (jobs : List Job) (k : ℕ) (j : Job)
    → CanJoinAll p q jobs → HasJoined p q jobs k a b → slice_get jobs k ≡ Some j → IsNext a b k j
next_joins p q a b jobs k j all has at =
    let can = all.each k j at in
    let near = within jobs k j at in
    let who = can.files_guest in record {
      guest = who;
      can = record {
        home = can.home;
        holds = can.holds;
        unbarred = can.unbarred;
        treeless = can.treeless;
        resting = can.resting;
        files_table = can.files_table ∙ sym has.later.files_table;
        ranges_table = can.ranges_table ∙ sym has.later.ranges_table;
        files_guest = refl;
        ranges_guest = can.ranges_guest ∙ sym who;
      };
      files_out = (has.later.first.files_root, ap (λ n. get_elem? a.view.numbers n) who ∙ (has.files_rest k (omega arith) ∙ all.files_out k near));
      ranges_out = (has.later.first.ranges_root, ap (λ n. get_elem? b.view.numbers n) who ∙ (has.ranges_rest k (omega arith) ∙ all.ranges_out k near));
    }

-- and then it was
pub next_joined : (p : FilesKnown) (q : RangesKnown) (a : FilesKnown) (b : RangesKnown) (c : FilesKnown) (d : RangesKnown) (jobs : List Job) (k : ℕ) (j : Job)
    → CanJoinAll p q jobs → HasJoined p q jobs k a b → slice_get jobs k ≡ Some j
    → JoinsOne a b j j.guest.dax.files.pass.view.guest c d → HasJoined p q jobs (k + 1) c d
next_joined p q a b c d jobs k j all has at one = one_joined p q a b c d jobs k j has at (subst (λ n. JoinsOne a b j n c d) (all.each k j at).files_guest one)

-- ---- what the jobs told

pub told_more : (jobs : List Job) (parts new : List GuestPart) (j : Job) (guest : ℕ) (ls : List Numbered)
    → AreTold jobs parts → guest ≡ length jobs → j.lines ≡ Some ls → new ≡ parts ++ record { guest = guest; lines = ls } ∷ [] → AreTold (jobs ++ j ∷ []) new
told_more jobs parts new j guest ls told who lines is = let last : GuestPart = record { guest = guest; lines = ls } in subst (AreTold (jobs ++ j ∷ [])) (sym is) (
  (let same = told.0 in omega (arith, same, length-append jobs (j ∷ []), length-append parts (last ∷ []))),
  λ n i x at at'. ⊎_elim
      (λ (old : slice_get jobs n ≡ Some i). ⊎_elim
      (λ (old' : slice_get parts n ≡ Some x). told.1 n i x old old')
      (λ (new' : (n ≡ length parts) × (last ≡ x)). let l = within jobs n i old in let e = new'.0 in let same = told.0 in absurd (omega (arith, l, e, same)))
      (at_end parts last x n at'))
      (λ (new : (n ≡ length jobs) × (j ≡ i)). ⊎_elim
      (λ (old' : slice_get parts n ≡ Some x). let l = within parts n x old' in let e = new.0 in let same = told.0 in absurd (omega (arith, l, e, same)))
      (λ (new' : (n ≡ length parts) × (last ≡ x)). (
        ap (λ (y : GuestPart). y.guest) (sym new'.1) ∙ (who ∙ sym new.0),
        ap (λ (y : Job). y.lines) (sym new.1) ∙ (lines ∙ ap (λ (y : GuestPart). Some y.lines) new'.1),
      ))
      (at_end parts last x n at'))
      (at_end jobs j i n at),
)
