-- The first passes of both tables while others are split off, and the boards of passes that did nothing.
use Rattle.std.proofs.Common.{◌≡◌, ◌≢◌, ◌∙◌, ◌⊎◌, inl, inr, ⊎_elim, ap, sym, subst, refl, ℕ, zero, suc, ◌+◌, ◌*◌, ◌<◌, ◌≤◌, true, false, true≢false, List, [], ◌∷◌, ◌++◌, map, length, get_or, set, slice_get, slice_set, replicate, sum, Option, Some, None, Result, Ok, Err, IfOk, IfSome, IsOk, is_ok, if◌then◌else◌, lt-ltb, arith, length-set, length-append}
use Rattle.std.specs.List.{AllByRecursion}
use Rattle.std.specs.Result.{result_ok}
use mathlib.Core.Option.{some}
use lib.ListN.{get_elem?, length-map}
use Rattle.std.proofs.lemmas.List.{length-replicate}
use Rattle.atomic_table.proofs.Lists.{set_here, set_else}
use Rattle.seats.specs.Views.{Given, unused, opened, out, root, guests as all_numbers, MayGive}
use Rattle.seats.proofs.Seating.{set_there}
use Rattle.plain_file.specs.declared.refusals.Memory.{Memory}
use Rattle.files_core.specs.Files.{FileState, no_file, new_file, new_files}
use Rattle.files_core.specs.Shown.{Shown}
use Rattle.file_share.specs.Table.{Mine as FilesMine, Refusal, in_list, part, unseen, nothing_of, only_seen, all_unseen as files_unseen, new_core as new_files_core}
use Rattle.file_share.specs.Steps.{NoTurn}
use Rattle.file_share.specs.Known.{Known as FilesKnown, parent_pass as files_parent, child_pass as files_child}
use Rattle.file_share.specs.Boards.{board_of as files_board, has_turn, has_bar, leases_had}
use Rattle.file_share.proofs.Places.{get_map, in_range}
use Rattle.file_share.proofs.Listing.{first_none}
use Rattle.file_share.proofs.Boarding.{count_is, part_turn, part_bar, part_leases}
use Rattle.page_map.specs.Board.{log_at}
use Rattle.range_tree.specs.Ranges.{range_count}
use Rattle.window_core.specs.Window.{Window, no_side, new_side, new_window}
use Rattle.window_core.specs.declared.states.RangeState.TheVariants as states
use Rattle.window_core.specs.Shown.{Branch, listed}
use Rattle.range_share.specs.Table.{Mine as RangesMine, Noted, no_branch, branch_in, moves_in, not_moving, nothing_of as no_side_seen, only_seen as only_log, stays_put, unmapped, no_map, all_unseen as ranges_unseen, new_core as new_ranges_core}
use Rattle.range_share.specs.Steps.{branch_of, moves_at, ranges_of, files_of}
use Rattle.range_share.specs.Known.{Known as RangesKnown, parent_pass as ranges_parent, child_pass as ranges_child}
use Rattle.range_share.specs.Boards.{board_of as ranges_board}
use Rattle.range_share.proofs.Parts.{length_listed}
use Rattle.range_share.proofs.Boarding.{files_count, none_is as treeless_is, rest_is}
use Rattle.range_share.proofs.BoardsPages.{length_table}
use Rattle.guest_wire.specs.Wires.{WireView}
use Rattle.guest_wire.specs.declared.driver.FileRef.{FileRef}
use Rattle.guest_dax.specs.Stands.{Stand, stand}
use Rattle.guest_io.specs.declared.guest.Granted.{Granted}
use Rattle.guest_io.specs.declared.guest.Holds.{Holds}
use Rattle.guest_io.specs.Requests.{IsHome}
use Rattle.guest_io.specs.Holds.{HasHolds, no_holds, max_holds, count_of as granted_of, leases_of, pins_of}
use Rattle.dax_script.specs.declared.scripts.Call.{Call}
use Rattle.transcript_text.specs.declared.transcripts.Numbered.{Numbered}
use Rattle.transcript_text.specs.TranscriptReading.{IsPrintableNumbered}
use Rattle.guest_run.specs.Runs.{IsRunFrom}
use Rattle.guest_run.specs.Working.{TakesAlone, LeasesAlone, AreBarred, AreHeldUp, first_at, history_at, notes_at}
use Rattle.guest_run.proofs.Places.{none_is, at_end}
use Rattle.dax_host.specs.InTurn.{shared_wire}
use Rattle.guest_threads.specs.declared.jobs.Job.{Job}
use Rattle.guest_threads.specs.Jobs.{Team, IsTeam, IsOut, AreOut, IsTold, CanJoin, files_out, ranges_out, firsts_of, count_of, leasers_for}

-- ---- numbers that are out

module _ {M X : Type 0} where
  -- so many numbers are out
  abbrev pub outs : List (Given M X) → ℕ → List (Given M X)
  outs ns zero = ns
  outs ns (suc k) = slice_set (outs ns k) k out

  pub outs_else : (ns : List (Given M X)) (k n : ℕ) → k ≤ n → get_elem? (outs ns k) n ≡ get_elem? ns n
  outs_else ns zero n l = refl
  outs_else ns (suc k) n l = set_else (outs ns k) k n out (λ e. absurd (omega arith)) ∙ outs_else ns k n (omega arith)

  pub outs_at : (ns : List (Given M X)) (k : ℕ) → ((n : ℕ) → n < k → get_elem? ns n ≡ some unused) → (n : ℕ) → n < k → get_elem? (outs ns k) n ≡ some out
  outs_at ns zero free n l = absurd (omega arith)
  outs_at ns (suc k) free n l = ⊎_elim
      (λ (e : n ≡ k). subst (λ (m : ℕ). get_elem? (outs ns (suc k)) m ≡ some out) (sym e) (set_there (outs ns k) k unused out (outs_else ns k k (omega arith) ∙ free k (omega arith))))
      (λ (lt : n < k). set_else (outs ns k) k n out (λ e. absurd (omega arith)) ∙ outs_at ns k (λ m lt'. free m (omega arith)) n lt)
      (last_or n k l)
    where
      last_or : (n k : ℕ) → n < suc k → (n ≡ k) ⊎ (n < k)
      last_or zero zero l = inl refl
      last_or zero (suc k) l = inr (omega arith)
      last_or (suc n) zero l = absurd (omega arith)
      last_or (suc n) (suc k) l = ⊎_elim (λ e. inl (ap suc e)) (λ lt. inr (omega arith)) (last_or n k (omega arith))

  -- what the pass that a table is opened with has of numbers
  abbrev pub at_first : List (Given M X)
  at_first = slice_set (replicate all_numbers unused) root opened

  same_there : (k : ℕ) (a : Given M X) (n : ℕ) → n < k → get_elem? (replicate k a) n ≡ some a
  same_there zero a n l = absurd (omega arith)
  same_there (suc k) a zero l = refl
  same_there (suc k) a (suc n) l = same_there k a n (omega arith)

  pub first_unused : (n : ℕ) → n < all_numbers → n ≢ root → get_elem? at_first n ≡ some unused
  first_unused n l ne = set_else (replicate all_numbers unused) root n opened ne ∙ same_there all_numbers unused n l

  pub first_root : get_elem? at_first root ≡ some opened
  first_root = set_here (replicate all_numbers unused) root opened (let z = length-replicate {A = Given M X} all_numbers unused in omega arith)

  pub first_past : (n : ℕ) (a : Given M X) → all_numbers ≤ n → get_elem? at_first n ≢ some a
  first_past n a past e =
      let x = in_range at_first n a e in
      let y = length-set (replicate {A = Given M X} all_numbers unused) root opened in
      let z = length-replicate {A = Given M X} all_numbers unused in omega arith

-- ---- the first passes of a team

pub files_table : (p : FilesKnown) (k : ℕ) → (files_out p k).table ≡ p.table
unfolding files_out
files_table p zero = refl
files_table p (suc k) = files_table p k

pub files_guest : (p : FilesKnown) (k : ℕ) → (files_out p k).view.guest ≡ p.view.guest
unfolding files_out
files_guest p zero = refl
files_guest p (suc k) = files_guest p k

pub files_mine : (p : FilesKnown) (k : ℕ) → (files_out p k).view.mine ≡ p.view.mine
unfolding files_out
files_mine p zero = refl
files_mine p (suc k) = files_mine p k

pub files_numbers : (p : FilesKnown) (k : ℕ) → (files_out p k).view.numbers ≡ outs p.view.numbers k
unfolding files_out
files_numbers p zero = refl
files_numbers p (suc k) = ap (λ ns. set ns k out) (files_numbers p k)

pub ranges_table : (q : RangesKnown) (k : ℕ) → (ranges_out q k).table ≡ q.table
unfolding ranges_out
ranges_table q zero = refl
ranges_table q (suc k) = ranges_table q k

pub ranges_guest : (q : RangesKnown) (k : ℕ) → (ranges_out q k).view.guest ≡ q.view.guest
unfolding ranges_out
ranges_guest q zero = refl
ranges_guest q (suc k) = ranges_guest q k

pub ranges_mine : (q : RangesKnown) (k : ℕ) → (ranges_out q k).view.mine ≡ q.view.mine
unfolding ranges_out
ranges_mine q zero = refl
ranges_mine q (suc k) = ranges_mine q k

pub ranges_numbers : (q : RangesKnown) (k : ℕ) → (ranges_out q k).view.numbers ≡ outs q.view.numbers k
unfolding ranges_out
ranges_numbers q zero = refl
ranges_numbers q (suc k) = ap (λ ns. set ns k out) (ranges_numbers q k)

module _ (t : Team) (is : IsTeam t) (k : ℕ) where
  abbrev leasers : ℕ
  leasers = leasers_for (count_of t) t.guests

  abbrev cores : List FileState
  cores = new_files all_numbers (firsts_of t)

  abbrev window : Window
  window = new_window (count_of t) (length (firsts_of t)) all_numbers

  pub files_mine_is : (files_out t.files k).view.mine ≡ files_unseen (new_files_core (firsts_of t) leasers)
  files_mine_is = files_mine t.files k ∙ ap (λ (p : FilesKnown). p.view.mine) is.files_new

  pub ranges_mine_is : (ranges_out t.ranges k).view.mine ≡ ranges_unseen (new_ranges_core (count_of t) (length (firsts_of t)) t.guests)
  ranges_mine_is = ranges_mine t.ranges k ∙ ap (λ (q : RangesKnown). q.view.mine) is.ranges_new

  pub files_root_is : (files_out t.files k).view.guest ≡ root
  files_root_is = files_guest t.files k ∙ ap (λ (p : FilesKnown). p.view.guest) is.files_new

  pub ranges_root_is : (ranges_out t.ranges k).view.guest ≡ root
  ranges_root_is = ranges_guest t.ranges k ∙ ap (λ (q : RangesKnown). q.view.guest) is.ranges_new

  pub files_marks : (files_out t.files k).view.numbers ≡ outs at_first k
  files_marks = files_numbers t.files k ∙ ap (λ (p : FilesKnown). outs p.view.numbers k) is.files_new

  pub ranges_marks : (ranges_out t.ranges k).view.numbers ≡ outs at_first k
  ranges_marks = ranges_numbers t.ranges k ∙ ap (λ (q : RangesKnown). outs q.view.numbers k) is.ranges_new

  -- nothing was seen of a file, nor of its log, and no range is moved or pinned
  pub part_is : (f : ℕ) → part (files_out t.files k).view f ≡ unseen
  part_is f = ap (λ (m : FilesMine). in_list m.files f) files_mine_is ∙ get_map nothing_of cores f no_file

  pub branch_is : (f : ℕ) → branch_of (ranges_out t.ranges k).view f ≡ no_branch
  branch_is f = ap (λ (m : RangesMine). branch_in m.shown.branches f) ranges_mine_is ∙ get_map no_side_seen window.sides f no_side

  pub moves_is : (r : ℕ) → moves_at (ranges_out t.ranges k).view r ≡ false
  moves_is r = ap (λ (m : RangesMine). moves_in m.shown.moving r) ranges_mine_is ∙ get_map not_moving window.states r states.Free

  pub pins_are : (ranges_out t.ranges k).view.mine.shown.pins ≡ []
  pins_are = ap (λ (m : RangesMine). m.shown.pins) ranges_mine_is

  pub files_many : length (files_out t.files k).view.mine.files ≡ length (firsts_of t)
  files_many = ap (λ (m : FilesMine). length m.files) files_mine_is ∙ (length-map cores nothing_of ∙ length-map (firsts_of t) (new_file all_numbers))

  pub branches_many : files_of (ranges_out t.ranges k).view ≡ length (firsts_of t)
  branches_many = ap (λ (m : RangesMine). length m.shown.branches) ranges_mine_is ∙ (length-map window.sides no_side_seen ∙ length-replicate (length (firsts_of t)) (new_side all_numbers))

  pub ranges_many : ranges_of (ranges_out t.ranges k).view ≡ count_of t
  ranges_many = ap (λ (m : RangesMine). length m.shown.moving) (ranges_mine t.ranges k)

-- one more pass may be split off
pub files_begin : (p : FilesKnown) → p ≡ files_out p 0
unfolding files_out
files_begin p = refl

pub ranges_begin : (q : RangesKnown) → q ≡ ranges_out q 0
unfolding ranges_out
ranges_begin q = refl

pub files_next : (first p q : FilesKnown) (k : ℕ) → p ≡ files_out first k → q ≡ files_parent p k → q ≡ files_out first (k + 1)
unfolding files_out
files_next first p q k was now = let z : suc k ≡ k + 1 = omega arith in now ∙ (ap (λ (x : FilesKnown). files_parent x k) was ∙ ap (λ n. files_out first n) z)

pub ranges_next : (first p q : RangesKnown) (k : ℕ) → p ≡ ranges_out first k → q ≡ ranges_parent p k → q ≡ ranges_out first (k + 1)
unfolding ranges_out
ranges_next first p q k was now = let z : suc k ≡ k + 1 = omega arith in now ∙ (ap (λ (x : RangesKnown). ranges_parent x k) was ∙ ap (λ n. ranges_out first n) z)

module _ (t : Team) (k : ℕ) (is : IsTeam t) (low : k < t.guests) where
  pub files_free : (p : FilesKnown) → p ≡ files_out t.files k → NoTurn p.view
  files_free p e f = ap (λ (x : FilesKnown). (part x.view f).turn) e ∙ ap (λ (m : Shown). m.turn) (part_is t is k f)

  unused_at : get_elem? (outs {M = FilesMine} {X = List Refusal} at_first k) k ≡ some unused
  unused_at = let few = is.few in outs_else at_first k k (omega arith) ∙ first_unused k (omega arith) (λ e. absurd (omega arith))

  unused_there : get_elem? (outs {M = RangesMine} {X = Noted} at_first k) k ≡ some unused
  unused_there = let few = is.few in outs_else at_first k k (omega arith) ∙ first_unused k (omega arith) (λ e. absurd (omega arith))

  pub files_give : (p : FilesKnown) → p ≡ files_out t.files k → (k < all_numbers) × MayGive p.view k
  files_give p e = let few = is.few in (
    omega arith,
    (ap (λ (x : FilesKnown). x.view.guest) e ∙ files_root_is t is k, ap (λ (x : FilesKnown). get_elem? x.view.numbers k) e ∙ (ap (λ ns. get_elem? ns k) (files_marks t is k) ∙ unused_at)),
  )

  pub ranges_give : (q : RangesKnown) → q ≡ ranges_out t.ranges k → (k < all_numbers) × MayGive q.view k
  ranges_give q e = let few = is.few in (
    omega arith,
    (ap (λ (x : RangesKnown). x.view.guest) e ∙ ranges_root_is t is k, ap (λ (x : RangesKnown). get_elem? x.view.numbers k) e ∙ (ap (λ ns. get_elem? ns k) (ranges_marks t is k) ∙ unused_there)),
  )

  -- a guest's pass may move ranges
  pub child_moves : (q r : RangesKnown) → q ≡ ranges_out t.ranges k → r ≡ ranges_child q k → r.view.guest < r.view.mine.movers
  child_moves q r e given =
      let n : r.view.guest ≡ k = ap (λ (x : RangesKnown). x.view.guest) given in
      let m : r.view.mine.movers ≡ t.guests = ap (λ (x : RangesKnown). x.view.mine.movers) given
      ∙ (ap (λ (x : RangesKnown). x.view.mine.movers) e ∙ ap (λ (x : RangesMine). x.movers) (ranges_mine_is t is k)) in omega arith

-- ---- lists that are the same everywhere

none_at : {A : Type 0} (x : A) (k n : ℕ) → get_or (replicate k x) n x ≡ x
none_at x zero n = refl
none_at x (suc k) zero = refl
none_at x (suc k) (suc n) = none_at x k n

nothing_listed : (k n : ℕ) → get_or (listed {A = ℕ} (λ r. 0) k) n 0 ≡ 0
nothing_listed zero n = refl
nothing_listed (suc k) zero = refl
nothing_listed (suc k) (suc n) = nothing_listed k n

nothing_summed : (k : ℕ) → sum (listed {A = ℕ} (λ r. 0) k) ≡ 0
nothing_summed zero = refl
nothing_summed (suc k) = nothing_summed k

no_leases : (ms : List Shown) → sum (map leases_had (map only_seen ms)) ≡ 0
no_leases [] = refl
no_leases (m ∷ ms) = no_leases ms

none_granted : (k : ℕ) → granted_of (replicate k None) ≡ 0
unfolding granted_of
none_granted zero = refl
none_granted (suc k) = none_granted k

none_leased : (file k : ℕ) → leases_of file (replicate k None) ≡ 0
unfolding leases_of
none_leased file zero = refl
none_leased file (suc k) = none_leased file k

none_pinned : (range k : ℕ) → pins_of range (replicate k None) ≡ 0
unfolding pins_of
none_pinned range zero = refl
none_pinned range (suc k) = none_pinned range k

-- ---- the boards of a guest that did nothing

module _ (t : Team) (n : ℕ) (is : IsTeam t) (low : n < t.guests) where
  abbrev own_files : FilesKnown
  own_files = files_child (files_out t.files n) n

  abbrev own_ranges : RangesKnown
  own_ranges = ranges_child (ranges_out t.ranges n) n

  own_part : (f : ℕ) → part own_files.view f ≡ unseen
  own_part f = get_map only_seen (files_out t.files n).view.mine.files f unseen ∙ ap only_seen (part_is t is n f)

  own_branch : (f : ℕ) → branch_of own_ranges.view f ≡ no_branch
  own_branch f = get_map only_log (ranges_out t.ranges n).view.mine.shown.branches f no_branch ∙ ap only_log (branch_is t is n f)

  pub own_unturned : (files_board own_files).hands.turn ≡ None
  own_unturned = first_none 0 (map has_turn own_files.view.mine.files) (λ f. part_turn own_files.view f ∙ ap (λ (m : Shown). m.turn) (own_part f))

  pub own_unbarred : (files_board own_files).hands.bar ≡ None
  own_unbarred = first_none 0 (map has_bar own_files.view.mine.files) (λ f. part_bar own_files.view f ∙ ap (λ (m : Shown). m.bar) (own_part f))

  pub own_treeless : (ranges_board own_ranges).hands.tree ≡ None
  own_treeless = treeless_is own_ranges.view (λ f. ap (λ (b : Branch). b.had) (own_branch f))

  pub own_resting : (ranges_board own_ranges).hands.moves ≡ None
  own_resting = rest_is own_ranges.view (λ r. get_map stays_put (ranges_out t.ranges n).view.mine.shown.moving r false)

  pub own_many : length (files_board own_files).files ≡ length (firsts_of t)
  own_many = count_is own_files ∙ (length-map (files_out t.files n).view.mine.files only_seen ∙ files_many t is n)

  pub own_logs : length (ranges_board own_ranges).ranges.logs ≡ length (firsts_of t)
  own_logs = files_count own_ranges ∙ (length-map (ranges_out t.ranges n).view.mine.shown.branches only_log ∙ branches_many t is n)

  own_maps : length own_ranges.view.mine.shown.maps ≡ count_of t
  own_maps = length-map (ranges_out t.ranges n).view.mine.shown.maps unmapped ∙ (ap (λ (m : RangesMine). length m.shown.maps) (ranges_mine_is t is n)
      ∙ (length_listed no_map (length (new_window (count_of t) (length (firsts_of t)) all_numbers).states) ∙ length-replicate (count_of t) states.Free))

  own_pages : length (ranges_board own_ranges).table ≡ 512 * count_of t
  own_pages = length_table own_ranges.view.mine.shown.maps ∙ ap (λ m. 512 * m) own_maps

  pub own_may_take : (ranges_board own_ranges).ranges.may_take ≡ true
  own_may_take = let m = ap (λ (x : RangesMine). x.movers) (ranges_mine_is t is n) in lt-ltb n (ranges_out t.ranges n).view.mine.movers (omega arith)

  pub own_home : IsHome (stand (shared_wire t.daemon) (files_board own_files) (ranges_board own_ranges)) t.refs
  own_home = let s = is.served in record {
    stands = record {
      refs_of = s.refs_of ∙ sym own_many;
      logs = own_logs ∙ sym own_many;
      may_take = own_may_take;
      turn = own_unturned;
      serving = λ honest. record {
        there = let a = s.there in let b = own_many in omega arith;
        pages = own_pages ∙ sym s.pages;
        started = s.started;
        ready = λ e. absurd (true≢false e);
        nodes = λ file near. let l = s.refs_of in s.nodes file (omega arith);
        handles = λ file near. let l = s.refs_of in s.handles file (omega arith);
      };
    };
    plain = λ honest e. absurd (true≢false e);
  }

  pub own_holds : HasHolds (stand (shared_wire t.daemon) (files_board own_files) (ranges_board own_ranges)) no_holds
  own_holds = record {
    asked = omega arith;
    slots = length-replicate {A = Option Granted} max_holds None;
    behind = λ i past. none_at {A = Option Granted} None max_holds i;
    each = λ i g at. absurd (none_is g (sym (none_at {A = Option Granted} None max_holds i) ∙ at));
    leases = λ file. part_leases own_files.view file ∙ (ap (λ (m : Shown). m.leases) (own_part file) ∙ sym (none_leased file max_holds));
    pins = λ range. nothing_listed (ranges_of own_ranges.view) range ∙ sym (none_pinned range max_holds);
    all_leases = no_leases (files_out t.files n).view.mine.files ∙ sym (none_granted max_holds);
    all_pins = nothing_summed (ranges_of own_ranges.view) ∙ sym (none_granted max_holds);
  }

-- ---- jobs

pub can_join_new : (t : Team) (k n : ℕ) (j : Job) → IsTeam t → n < t.guests → IsOut t n j → CanJoin (files_out t.files k) (ranges_out t.ranges k) n j
can_join_new t k n j is low o = record {
  home = subst (λ (z : WireView × FilesKnown × RangesKnown × List FileRef). IsHome (stand z.0 (files_board z.1) (ranges_board z.2)) z.3)
      (λ i. (sym o.wire i, sym o.files i, sym o.ranges i, sym o.refs i)) (own_home t n is low);
  holds = subst (λ (z : WireView × FilesKnown × RangesKnown × Holds). HasHolds (stand z.0 (files_board z.1) (ranges_board z.2)) z.3)
      (λ i. (sym o.wire i, sym o.files i, sym o.ranges i, sym o.holds i)) (own_holds t n is low);
  unbarred = ap (λ (p : FilesKnown). (files_board p).hands.bar) o.files ∙ own_unbarred t n is low;
  treeless = ap (λ (q : RangesKnown). (ranges_board q).hands.tree) o.ranges ∙ own_treeless t n is low;
  resting = ap (λ (q : RangesKnown). (ranges_board q).hands.moves) o.ranges ∙ own_resting t n is low;
  files_table = ap (λ (p : FilesKnown). p.table) o.files ∙ (files_table t.files n ∙ sym (files_table t.files k));
  ranges_table = ap (λ (q : RangesKnown). q.table) o.ranges ∙ (ranges_table t.ranges n ∙ sym (ranges_table t.ranges k));
  files_guest = ap (λ (p : FilesKnown). p.view.guest) o.files;
  ranges_guest = ap (λ (q : RangesKnown). q.view.guest) o.ranges;
}

-- one more job
pub one_out : (t : Team) (k : ℕ) (jobs : List Job) (j : Job) → AreOut t k jobs → IsOut t k j → AreOut t (k + 1) (jobs ++ j ∷ [])
one_out t k jobs j are o = let l = are.0 in (
  omega (arith, length-append jobs (j ∷ [])),
  λ n i at. ⊎_elim (are.1 n i) (λ (e : (n ≡ length jobs) × (j ≡ i)). subst (λ (z : ℕ × Job). IsOut t z.0 z.1) (λ x. (sym (e.0 ∙ l) x, e.1 x)) o) (at_end jobs j i n at),
)

-- a push with room
pushed : {A T E : Type 0} (r : Result T E) (new a b : A) → IsOk r → new ≡ (if is_ok r then a else b) → new ≡ a
pushed (Ok x) new a b ok is = is
pushed (Err e) new a b ok is = absurd (true≢false (sym ok))

pub pushed_out : {T E : Type 0} (j : Job) (t : Team) (k : ℕ) (old new : List Job) (r : Result T E) → IsOk r → new ≡ (if is_ok r then old ++ j ∷ [] else old)
    → AreOut t k old → IsOut t k j → AreOut t (k + 1) new
pushed_out j t k old new r ok is are o = subst (AreOut t (k + 1)) (sym (pushed r new (old ++ j ∷ []) old ok is)) (one_out t k old j are o)

-- ---- work

-- what a worker answers, as the lines of a job
pub told_by : (guests : List (List Call)) (n : ℕ) (s u : Stand) (cs : List Call) (r : Result (List Numbered) Memory) (o : Option (List Numbered)) → o ≡ result_ok r → slice_get guests n ≡ Some cs
    → IfOk r (IsRunFrom s.files.guest (range_count s.map) (first_at s.files) (λ f. length (history_at s.files f)) (history_at u.files) (log_at u.map) (notes_at u.files) cs) → IfOk r (λ ls. length ls ≡ length cs)
    → (LeasesAlone s → IfOk r (AreBarred cs)) → (TakesAlone s → IfOk r (AreHeldUp (range_count s.map) (log_at u.map) cs)) → IfOk r (AllByRecursion IsPrintableNumbered)
    → IfSome o (λ ls. (cs : List Call) × (slice_get guests n ≡ Some cs) × IsTold s u cs ls)
told_by guests n s u cs r o is at run count barred held_up printable = subst (λ (x : Option (List Numbered)). IfSome x (λ ls. (cs : List Call) × (slice_get guests n ≡ Some cs) × IsTold s u cs ls)) (sym is)
    (go r run count barred held_up printable)
  where
    go : (r : Result (List Numbered) Memory)
        → IfOk r (IsRunFrom s.files.guest (range_count s.map) (first_at s.files) (λ f. length (history_at s.files f)) (history_at u.files) (log_at u.map) (notes_at u.files) cs) → IfOk r (λ ls. length ls ≡ length cs)
        → (LeasesAlone s → IfOk r (AreBarred cs)) → (TakesAlone s → IfOk r (AreHeldUp (range_count s.map) (log_at u.map) cs)) → IfOk r (AllByRecursion IsPrintableNumbered)
        → IfSome (result_ok r) (λ ls. (cs : List Call) × (slice_get guests n ≡ Some cs) × IsTold s u cs ls)
    go (Ok ls) run count barred held_up printable = (cs, at, record { run = run; count = count; barred = barred; held_up = held_up; printable = printable })
    go (Err e) run count barred held_up printable = tt
