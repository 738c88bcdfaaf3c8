-- The first passes read again when all others are in: what they keep, and what is told of the files.
use Rattle.std.proofs.Common.{◌≡◌, ◌≢◌, ◌∙◌, ⊎_elim, ap, sym, subst, refl, ℕ, ◌+◌, ◌<◌, List, [], ◌∷◌, ◌++◌, length, take, slice_get, Some, arith, append-nil, length-append, lt_of_not-le}
use Rattle.std.specs.Prelude.{IsTrue}
use mathlib.Core.Logic.{dite}
use native.Mathlib.Decide.{ℕ_discrete, dec_le}
use lib.ListN.{get_elem?}
use Rattle.seats.specs.Views.{root, AllIn}
use Rattle.plain_file.specs.declared.operations.Entry.{Entry}
use Rattle.plain_file.specs.declared.operations.First.{First}
use Rattle.page_map.specs.declared.ranges.LogEntry.{LogEntry}
use Rattle.page_map.specs.Logs.{sound}
use Rattle.files_core.specs.Good.{Within}
use Rattle.file_share.specs.Table.{Marks, first_in}
use Rattle.file_share.specs.Steps.{Accounted}
use Rattle.file_share.specs.Known.{Known as FilesKnown, IsReread as FilesReread}
use Rattle.window_core.specs.Laws.{Begins}
use Rattle.range_share.specs.Table.{moves_in}
use Rattle.range_share.specs.Steps.{branch_of}
use Rattle.range_share.specs.Known.{Known as RangesKnown, IsReread as RangesReread}
use Rattle.dax_script.specs.declared.scripts.Call.{Call}
use Rattle.transcript_text.specs.declared.transcripts.GuestPart.{GuestPart}
use Rattle.guest_run.proofs.Places.{at_end, in_take, within}
use Rattle.guest_threads.specs.declared.jobs.Job.{Job}
use Rattle.guest_threads.specs.declared.tellings.FileTold.{FileTold}
use Rattle.guest_threads.specs.Jobs.{Team, AreFirst, AreBack, HasLeft, Returned, AreTallied, AreReread, IsRead, AreRead, history_seen, log_seen}
use Rattle.guest_threads.specs.Ran.{IsFileTold, AreFilesTold}
use Rattle.guest_threads.proofs.Joining.{later_same, later_on, left_on}

-- ---- one turn, or one tree

pub reread_none : (p : FilesKnown) (q : RangesKnown) → AreFirst p q → AreReread p q p q
reread_none p q first = record { later = later_same p q first; files_numbers = refl; ranges_numbers = refl; histories = λ f. refl }

pub reread_files : (p : FilesKnown) (q : RangesKnown) (p' : FilesKnown) → AreFirst p q → FilesReread p p' → AreReread p q p' q
reread_files p q p' first r = record {
  later = record {
    first = record {
      files_root = r.guest ∙ first.files_root;
      ranges_root = first.ranges_root;
      files_idle = λ f. (r.turns f, r.leases f ∙ (first.files_idle f).1, r.bars f ∙ (first.files_idle f).2);
      ranges_idle = first.ranges_idle;
      own = λ f. subst (λ (l : List Entry). Within root 0 l) (sym (r.seen f)) (first.own f);
    };
    files_table = r.table;
    ranges_table = refl;
    firsts = r.firsts;
    files_long = r.long;
    ranges_long = refl;
    logs_long = refl;
    logs = λ f. ([], append-nil (branch_of q.view f).seen);
  };
  files_numbers = r.numbers;
  ranges_numbers = refl;
  histories = r.seen;
}

pub reread_ranges : (p : FilesKnown) (q : RangesKnown) (file : ℕ) (q' : RangesKnown) → AreFirst p q → RangesReread file q q' → AreReread p q p q'
reread_ranges p q file q' first r = record {
  later = record {
    first = record {
      files_root = first.files_root;
      ranges_root = r.guest ∙ first.ranges_root;
      files_idle = first.files_idle;
      ranges_idle = record {
        moves = λ i. ap (λ l. moves_in l i) r.moving ∙ first.ranges_idle.moves i;
        trees = r.trees;
        pins = r.pins ∙ first.ranges_idle.pins;
      };
      own = first.own;
    };
    files_table = refl;
    ranges_table = r.table;
    firsts = refl;
    files_long = refl;
    ranges_long = r.ranges;
    logs_long = r.files;
    logs = λ f. dite (ℕ_discrete f file)
        (λ same. subst (λ (k : ℕ). Begins (branch_of q.view k).seen (branch_of q'.view k).seen) (sym same) r.grown)
        (λ other. ([], append-nil (branch_of q.view f).seen ∙ sym (r.others f other)));
  };
  files_numbers = refl;
  ranges_numbers = r.numbers;
  histories = λ f. refl;
}

pub reread_on : (p : FilesKnown) (q : RangesKnown) (a : FilesKnown) (b : RangesKnown) (c : FilesKnown) (d : RangesKnown) → AreReread p q a b → AreReread a b c d → AreReread p q c d
reread_on p q a b c d x y = record {
  later = later_on p q a b c d x.later y.later;
  files_numbers = y.files_numbers ∙ x.files_numbers;
  ranges_numbers = y.ranges_numbers ∙ x.ranges_numbers;
  histories = λ f. y.histories f ∙ x.histories f;
}

-- every other pass is still in
pub reread_in : (p : FilesKnown) (q : RangesKnown) (p' : FilesKnown) (q' : RangesKnown) → AreReread p q p' q' → AllIn p.view × AllIn q.view → AllIn p'.view × AllIn q'.view
reread_in p q p' q' r all = (
  (r.later.first.files_root, λ n e. all.0.1 n (ap (λ ns. get_elem? ns n) (sym r.files_numbers) ∙ e)),
  (r.later.first.ranges_root, λ n e. all.1.1 n (ap (λ ns. get_elem? ns n) (sym r.ranges_numbers) ∙ e)),
)

-- ---- files that were read

module _ (a : FilesKnown) (b : RangesKnown) (c : FilesKnown) (d : RangesKnown) (r : AreReread a b c d) where
  -- a file whose log is the same is read still
  read_still : (f : ℕ) → log_seen d f ≡ log_seen b f → IsRead a b f → IsRead c d f
  read_still f same was = record {
    account = subst (λ (z : Marks × List First × List Entry). Accounted z.0 f (record { first = first_in z.1 f; history = z.2 })) (λ i. (sym r.files_numbers i, sym r.later.firsts i, sym (r.histories f) i)) was.account;
    sound_log = subst (λ (z : ℕ × List LogEntry). IsTrue (sound z.0 z.1)) (λ i. (sym r.later.ranges_long i, sym same i)) was.sound_log;
  }

  told_still : (f : ℕ) (t : FileTold) → log_seen d f ≡ log_seen b f → IsFileTold (history_seen a) (log_seen b) f t → IsFileTold (history_seen c) (log_seen d) f t
  told_still f t same was = subst (λ (z : List Entry × List LogEntry). IsFileTold (λ i. z.0) (λ i. z.1) f t) (λ i. (sym (r.histories f) i, sym same i)) was

  module _ (n : ℕ) (others : (f : ℕ) → f ≢ n → log_seen d f ≡ log_seen b f) where
    pub read_more : AreRead a b n → IsRead c d n → AreRead c d (n + 1)
    read_more were now f near = dite (ℕ_discrete f n)
        (λ same. subst (IsRead c d) (sym same) now)
        (λ other. read_still f (others f other) (were f (below f n near other)))
      where
        below : (f n : ℕ) → f < n + 1 → f ≢ n → f < n
        below f n l ne = dite (dec_le n f) (λ le. absurd (ne (omega (arith, l, le)))) (λ not_le. lt_of_not-le not_le)

    pub told_files : (l : List FileTold) (t : FileTold) → AreFilesTold (history_seen a) (log_seen b) n l → IsFileTold (history_seen c) (log_seen d) n t → AreFilesTold (history_seen c) (log_seen d) (n + 1) (l ++ t ∷ [])
    told_files l t were now = (
      (let many = were.0 in omega (arith, many, length-append l (t ∷ []))),
      λ f x at. ⊎_elim
          (λ (old : slice_get l f ≡ Some x). told_still f x (others f (λ same. let w = within l f x old in let many = were.0 in absurd (omega (arith, w, many, same)))) (were.1 f x old))
          (λ (new : (f ≡ length l) × (t ≡ x)). subst (λ (z : ℕ × FileTold). IsFileTold (history_seen c) (log_seen d) z.0 z.1) (λ i. (sym (new.0 ∙ were.0) i, new.1 i)) now)
          (at_end l t x f at),
    )

-- ---- what is left, read later

module _ (t : Team) (p : FilesKnown) (q : RangesKnown) (p' : FilesKnown) (q' : RangesKnown) (r : AreReread p q p' q') where
  pub back_read : AreBack t p q → AreBack t p' q'
  back_read back =
      let all = reread_in p q p' q' r (back.files_in, back.ranges_in) in record {
        later = later_on t.files t.ranges p q p' q' back.later r.later;
        files_in = all.0;
        ranges_in = all.1;
      }

  pub left_read : (j : Job) (n : ℕ) → HasLeft j n p q → HasLeft j n p' q'
  left_read j n left = left_on j n p q p' q' left (ap (λ ns. get_elem? ns n) r.files_numbers) (ap (λ ns. get_elem? ns n) r.ranges_numbers) r.later

  pub returned_read : (guests : List (List Call)) (parts : List GuestPart) → Returned t guests p q parts → Returned t guests p' q' parts
  returned_read guests parts ret = record {
    count = ret.count;
    each = λ g cs x at at'. let o = ret.each g cs x at at' in record {
      number = o.number;
      count = o.count;
      job = o.job;
      table = o.table;
      left = left_read o.job g o.left;
      run = o.run;
      barred = o.barred;
      held_up = o.held_up;
      printable = o.printable;
    };
    others = λ n far small other. ap (λ ns. get_elem? ns n) r.files_numbers ∙ ret.others n far small other;
  }

module _ (background : ℕ) (guests : List (List Call)) (p : FilesKnown) (q : RangesKnown) (parts : List GuestPart) (tallied : AreTallied background guests p q parts) where
  pub tallied_read : (p' : FilesKnown) (q' : RangesKnown) → AreReread p q p' q' → AreTallied background guests p' q' parts
  tallied_read p' q' r = record {
    guests_are = λ g cs x at at'. let o = tallied.guests_are g cs x at at' in record {
      mine = o.mine;
      refusals = o.refusals;
      files_back = ap (λ ns. get_elem? ns g) r.files_numbers ∙ o.files_back;
      leased = λ f near. o.leased f (let long = r.later.files_long in omega (arith, near, long));
      moved = o.moved;
      noted = o.noted;
      ranges_back = ap (λ ns. get_elem? ns g) r.ranges_numbers ∙ o.ranges_back;
      busy = o.busy;
    };
    background_is = λ some. let o = tallied.background_is some in record {
      moved = o.moved;
      noted = o.noted;
      ranges_back = ap (λ ns. get_elem? ns (length guests)) r.ranges_numbers ∙ o.ranges_back;
      swept = o.swept;
    };
  }

  -- of the first so many parts
  pub tallied_front : (n : ℕ) → AreTallied background guests p q (take n parts)
  tallied_front n = record {
    guests_are = λ g cs x at at'. tallied.guests_are g cs x at (in_take n parts g x at').1;
    background_is = tallied.background_is;
  }
