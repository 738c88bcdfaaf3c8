-- The boards of passes that are newly split off a team's first ones: of no file or log was anything seen, and nothing is in hand.
use Rattle.std.proofs.Common.{◌≡◌, ◌∙◌, ◌⊎◌, inl, inr, ap, sym, refl, ℕ, zero, suc, ◌+◌, ◌*◌, ◌<◌, ◌≤◌, Bool, true, false, true≢false, List, [], ◌∷◌, length, map, drop, replicate, get_or, slice_index_or, Option, None, ne_eqb, arith}
use Rattle.std.specs.Prelude.{nat_lt, sum, if◌then◌else◌}
use Rattle.std.proofs.lemmas.List.{length-replicate}
use Rattle.std.proofs.lemmas.List.FromFn.{length-map-range_with_len}
use Rattle.atomic_table.specs.Seated.{TableId}
use Rattle.seats.specs.Views.{guests as all_numbers}
use Rattle.plain_file.specs.declared.operations.First.{First}
use Rattle.plain_file.specs.Board.{FileView, no_file, file_at}
use Rattle.plain_file.specs.Plain.{first_mark}
use Rattle.plain_file.specs.Turns.{leases_on}
use Rattle.page_map.specs.declared.ranges.Target.{Target}
use Rattle.page_map.specs.Board.{Noted as BoardNoted, known_files}
use Rattle.page_map.specs.Plain.{range_pages}
use Rattle.range_tree.specs.Ranges.{range_count, pins_on}
use Rattle.files_core.specs.Files.{new_files}
use Rattle.files_core.specs.Shown.{Shown}
use Rattle.file_share.specs.Table.{Mine as FilesMine, unseen, first_of, first_in, nothing_of, only_seen, just_seen as files_seen}
use Rattle.file_share.specs.Steps.{others_may as others_lease}
use Rattle.file_share.specs.Known.{Known as FilesKnown, whole_of, first_pass as first_files, child_pass as files_child}
use Rattle.file_share.specs.Boards.{listed, first_true, has_turn, has_bar, leases_had, file_view, board_of as files_board, numbers_of}
use Rattle.range_share.specs.Table.{Mine as RangesMine, blank, no_branch, others_may as others_move, just_seen as ranges_seen}
use Rattle.range_share.specs.Known.{Known as RangesKnown, first_pass as first_ranges, child_pass as ranges_child}
use Rattle.range_share.specs.Boards.{first_true as first_range, has_tree, log_of, shown_page, board_of as ranges_board}
use Rattle.guest_dax.specs.Stands.{Stand, stand}
use Rattle.guest_dax.specs.Looks.{NoLooks}
use Rattle.guest_io.specs.declared.guest.Granted.{Granted}
use Rattle.guest_io.specs.Holds.{HasHolds, no_holds, max_holds, count_of as granted_in, leases_of, pins_of}
use Rattle.guest_run.specs.Working.{IsIdle, first_at, history_at}
use Rattle.guest_run.proofs.Places.{none_is}
use Rattle.dax_host.specs.InTurn.{shared_wire}
use Rattle.guest_threads.specs.declared.jobs.Job.{Job}
use Rattle.guest_threads.specs.Jobs.{Team, IsTeam, IsOut, files_out, ranges_out, firsts_of, count_of, leasers_for, stand_of}

-- ---- lists

pub same_at : {A : Type 0} (x : A) (k n : ℕ) → slice_index_or (replicate k x) n x ≡ x
same_at x zero n = refl
same_at x (suc k) zero = refl
same_at x (suc k) (suc n) = same_at x k n

past_end : {A : Type 0} (xs : List A) (n : ℕ) (d : A) → length xs ≤ n → slice_index_or xs n d ≡ d
past_end [] n d le = refl
past_end (x ∷ xs) zero d le = absurd (omega arith)
past_end (x ∷ xs) (suc n) d le = past_end xs n d (omega arith)

no_sum : (k : ℕ) → sum (replicate k 0) ≡ 0
no_sum zero = refl
no_sum (suc k) = no_sum k

-- a value of a function below a number, or what stands for one past it
listed_any : {A : Type 0} (P : A → Type 0) (F : ℕ → A) (d : A) (k f : ℕ) → (f < k → P (F f)) → (k ≤ f → P d) → P (slice_index_or (listed F k) f d)
listed_any P F d zero f here past = past (omega arith)
listed_any P F d (suc k) zero here past = here (omega arith)
listed_any P F d (suc k) (suc f) here past = listed_any P (λ i. F (suc i)) d k f (λ lt. here (omega (arith, lt))) (λ le. past (omega (arith, le)))

listed_len : {A : Type 0} (F : ℕ → A) (k : ℕ) → length (listed F k) ≡ k
listed_len F zero = refl
listed_len F (suc k) = ap suc (listed_len (λ i. F (suc i)) k)

-- ---- a table is known by its numbers

pub same_table : (a b : TableId) → numbers_of a ≡ numbers_of b → a ≡ b
same_table a b e = λ i. record {
  words = get_or (e i) 0 0;
  slots = get_or (e i) 1 0;
  views_name = get_or (e i) 2 0;
  atom = get_or (e i) 3 0;
  block = get_or (e i) 4 0;
  offset = get_or (e i) 5 0;
  slot_names = drop 6 (e i);
}

-- ---- a new pass of the table of files

-- what it is: nothing was seen, and nothing is in hand
abbrev pub fresh_files : TableId → List First → ℕ → ℕ → FilesKnown
fresh_files t firsts leasers n = record {
  table = t;
  view = record {
    live = true;
    guest = n;
    mine = record { firsts = firsts; leasers = leasers; files = replicate (length firsts) unseen };
    noted = [];
    before = None;
    beside = None;
    did = [];
    numbers = [];
  };
  mark = first_mark;
}

-- a new pass by what the first one is shown
abbrev files_of_mine : TableId → FilesMine → ℕ → FilesKnown
files_of_mine t m n = record { table = t; view = record { live = true; guest = n; mine = files_seen m; noted = []; before = None; beside = None; did = []; numbers = [] }; mark = first_mark }

firsts_are : (firsts : List First) → map first_of (new_files all_numbers firsts) ≡ firsts
firsts_are [] = refl
firsts_are (x ∷ xs) = ap (λ (l : List First). x ∷ l) (firsts_are xs)

nothing_seen : (firsts : List First) → map only_seen (map nothing_of (new_files all_numbers firsts)) ≡ replicate (length firsts) unseen
nothing_seen [] = refl
nothing_seen (x ∷ xs) = ap (λ (l : List Shown). unseen ∷ l) (nothing_seen xs)

files_child_is : (t : TableId) (firsts : List First) (leasers n : ℕ) → files_child (first_files t firsts leasers) n ≡ fresh_files t firsts leasers n
files_child_is t firsts leasers n =
    let a = firsts_are firsts in
    let b = nothing_seen firsts in
    let new = fresh_files t firsts leasers n in
    λ i. record new { view = record new.view { mine = record { firsts = a i; leasers = leasers; files = b i } } }

-- the first pass stays of its table, and is shown the same, however many passes were split off
pub files_table : (p : FilesKnown) (k : ℕ) → (files_out p k).table ≡ p.table
unfolding files_out
files_table p zero = refl
files_table p (suc k) = files_table p k

pub files_mine : (p : FilesKnown) (k : ℕ) → (files_out p k).view.mine ≡ p.view.mine
unfolding files_out
files_mine p zero = refl
files_mine p (suc k) = files_mine p k

pub new_files_pass : (t : Team) (n : ℕ) → IsTeam t → files_child (files_out t.files n) n ≡ fresh_files t.files.table (firsts_of t) (leasers_for (count_of t) t.guests) n
new_files_pass t n is =
    let a = files_table t.files n in
    let b = files_mine t.files n in
    let split : files_child (files_out t.files n) n ≡ files_child t.files n = λ i. files_of_mine (a i) (b i) n in
    split ∙ ap (λ (p : FilesKnown). files_child p n) is.files_new ∙ files_child_is t.files.table (firsts_of t) (leasers_for (count_of t) t.guests) n

-- ---- a new pass of the table of ranges

abbrev pub fresh_ranges : TableId → ℕ → ℕ → ℕ → ℕ → RangesKnown
fresh_ranges t ranges files movers n = record {
  table = t;
  view = record {
    live = true;
    guest = n;
    mine = record { shown = record { moving = replicate ranges false; branches = replicate files no_branch; pins = []; maps = replicate ranges None }; movers = movers };
    noted = blank;
    before = None;
    beside = None;
    did = [];
    numbers = [];
  };
}

abbrev ranges_of_mine : TableId → RangesMine → ℕ → RangesKnown
ranges_of_mine t m n = record { table = t; view = record { live = true; guest = n; mine = ranges_seen m; noted = blank; before = None; beside = None; did = []; numbers = [] } }

module _ (t : TableId) (movers n : ℕ) where
  none_moving : (ranges files : ℕ) → (ranges_child (first_ranges t ranges files movers) n).view.mine.shown.moving ≡ replicate ranges false
  none_moving zero files = refl
  none_moving (suc k) files = ap (λ (l : List Bool). false ∷ l) (none_moving k files)

  no_logs : (ranges files : ℕ) → (ranges_child (first_ranges t ranges files movers) n).view.mine.shown.branches ≡ replicate files no_branch
  no_logs ranges zero = refl
  no_logs ranges (suc k) = ap (λ l. no_branch ∷ l) (no_logs ranges k)

  no_maps : (ranges files : ℕ) → (ranges_child (first_ranges t ranges files movers) n).view.mine.shown.maps ≡ replicate ranges None
  no_maps zero files = refl
  no_maps (suc k) files = ap (λ (l : List (Option (Option Target))). None ∷ l) (no_maps k files)

  ranges_child_is : (ranges files : ℕ) → ranges_child (first_ranges t ranges files movers) n ≡ fresh_ranges t ranges files movers n
  ranges_child_is ranges files =
      let a = none_moving ranges files in
      let b = no_logs ranges files in
      let c = no_maps ranges files in
      let new = fresh_ranges t ranges files movers n in
      λ i. record new { view = record new.view { mine = record { shown = record { moving = a i; branches = b i; pins = []; maps = c i }; movers = movers } } }

pub ranges_table : (p : RangesKnown) (k : ℕ) → (ranges_out p k).table ≡ p.table
unfolding ranges_out
ranges_table p zero = refl
ranges_table p (suc k) = ranges_table p k

pub ranges_mine : (p : RangesKnown) (k : ℕ) → (ranges_out p k).view.mine ≡ p.view.mine
unfolding ranges_out
ranges_mine p zero = refl
ranges_mine p (suc k) = ranges_mine p k

pub new_ranges_pass : (t : Team) (n : ℕ) → IsTeam t → ranges_child (ranges_out t.ranges n) n ≡ fresh_ranges t.ranges.table (count_of t) (length (firsts_of t)) t.guests n
new_ranges_pass t n is =
    let a = ranges_table t.ranges n in
    let b = ranges_mine t.ranges n in
    let split : ranges_child (ranges_out t.ranges n) n ≡ ranges_child t.ranges n = λ i. ranges_of_mine (a i) (b i) n in
    split ∙ ap (λ (p : RangesKnown). ranges_child p n) is.ranges_new ∙ ranges_child_is t.ranges.table t.guests n (count_of t) (length (firsts_of t))

-- ---- the board of a new pass of files

no_turn : (m k : ℕ) → first_true m (map has_turn (replicate k unseen)) ≡ None
no_turn m zero = refl
no_turn m (suc k) = no_turn (m + 1) k

no_bar : (m k : ℕ) → first_true m (map has_bar (replicate k unseen)) ≡ None
no_bar m zero = refl
no_bar m (suc k) = no_bar (m + 1) k

no_leases : (k : ℕ) → map leases_had (replicate k unseen) ≡ replicate k 0
no_leases zero = refl
no_leases (suc k) = ap (λ (l : List ℕ). 0 ∷ l) (no_leases k)

module _ (t : TableId) (firsts : List First) (leasers n : ℕ) where
  pub fresh_turn : (files_board (fresh_files t firsts leasers n)).hands.turn ≡ None
  fresh_turn = no_turn 0 (length firsts)

  pub fresh_bar : (files_board (fresh_files t firsts leasers n)).hands.bar ≡ None
  fresh_bar = no_bar 0 (length firsts)

  pub fresh_leases : (f : ℕ) → leases_on (files_board (fresh_files t firsts leasers n)) f ≡ 0
  fresh_leases f = ap (λ (l : List ℕ). slice_index_or l f 0) (no_leases (length firsts)) ∙ same_at 0 (length firsts) f

  pub fresh_no_leases : sum (files_board (fresh_files t firsts leasers n)).hands.leases ≡ 0
  fresh_no_leases = ap sum (no_leases (length firsts)) ∙ no_sum (length firsts)

  pub fresh_count : length (files_board (fresh_files t firsts leasers n)).files ≡ length firsts
  fresh_count = listed_len (file_view (fresh_files t firsts leasers n).view) (length (replicate (length firsts) unseen)) ∙ length-replicate (length firsts) unseen

  pub fresh_first : (f : ℕ) → first_at (files_board (fresh_files t firsts leasers n)) f ≡ first_in firsts f
  fresh_first f =
      let k = length-replicate (length firsts) unseen in
      listed_any (λ (v : FileView). v.first ≡ first_in firsts f) (file_view (fresh_files t firsts leasers n).view) no_file (length (replicate (length firsts) unseen)) f
      (λ lt. refl)
      (λ le. sym (past_end firsts f no_file.first (omega (arith, le, k))))

  pub fresh_history : (f : ℕ) → history_at (files_board (fresh_files t firsts leasers n)) f ≡ []
  fresh_history f = listed_any (λ (v : FileView). v.history ≡ []) (file_view (fresh_files t firsts leasers n).view) no_file (length (replicate (length firsts) unseen)) f
      (λ lt. ap whole_of (same_at unseen (length firsts) f))
      (λ le. refl)

  -- no bar was refused
  pub fresh_refusals : (f : ℕ) → (file_at (files_board (fresh_files t firsts leasers n)) f).refusals ≡ 0
  fresh_refusals f = listed_any (λ (v : FileView). v.refusals ≡ 0) (file_view (fresh_files t firsts leasers n).view) no_file (length (replicate (length firsts) unseen)) f
      (λ lt. refl)
      (λ le. refl)

-- ---- the board of a new pass of ranges

no_tree : (m k : ℕ) → first_range m (map has_tree (replicate k no_branch)) ≡ None
no_tree m zero = refl
no_tree m (suc k) = no_tree (m + 1) k

none_moved : (m k : ℕ) → first_range m (replicate k false) ≡ None
none_moved m zero = refl
none_moved m (suc k) = none_moved (m + 1) k

logs_len : (k : ℕ) → length (map log_of (replicate k no_branch)) ≡ k
logs_len zero = refl
logs_len (suc k) = ap suc (logs_len k)

module _ (t : TableId) (files movers n : ℕ) where
  no_pins : (ranges : ℕ) → (ranges_board (fresh_ranges t ranges files movers n)).hands.pins ≡ replicate ranges 0
  no_pins zero = refl
  no_pins (suc k) = ap (λ (l : List ℕ). 0 ∷ l) (no_pins k)

  none_looked : (ranges : ℕ) → (ranges_board (fresh_ranges t ranges files movers n)).ranges.looks ≡ replicate ranges None
  none_looked zero = refl
  none_looked (suc k) = ap (λ (l : List (Option BoardNoted)). None ∷ l) (none_looked k)

module _ (t : TableId) (ranges files movers n : ℕ) where
  pub fresh_tree : (ranges_board (fresh_ranges t ranges files movers n)).hands.tree ≡ None
  fresh_tree = no_tree 0 files

  pub fresh_moves : (ranges_board (fresh_ranges t ranges files movers n)).hands.moves ≡ None
  fresh_moves = none_moved 0 ranges

  pub fresh_ranges_count : range_count (ranges_board (fresh_ranges t ranges files movers n)) ≡ ranges
  fresh_ranges_count = ap length (no_pins t files movers n ranges) ∙ length-replicate ranges 0

  pub fresh_pins : (r : ℕ) → pins_on (ranges_board (fresh_ranges t ranges files movers n)) r ≡ 0
  fresh_pins r = ap (λ (l : List ℕ). slice_index_or l r 0) (no_pins t files movers n ranges) ∙ same_at 0 ranges r

  pub fresh_no_pins : sum (ranges_board (fresh_ranges t ranges files movers n)).hands.pins ≡ 0
  fresh_no_pins = ap sum (no_pins t files movers n ranges) ∙ no_sum ranges

  pub fresh_looks : NoLooks (ranges_board (fresh_ranges t ranges files movers n))
  fresh_looks = none_looked t files movers n ranges ∙ ap (λ (k : ℕ). replicate k None) (sym fresh_ranges_count)

  pub fresh_logs : known_files (ranges_board (fresh_ranges t ranges files movers n)) ≡ files
  fresh_logs = logs_len files

  pub fresh_pages : length (ranges_board (fresh_ranges t ranges files movers n)).table ≡ range_pages * ranges
  fresh_pages = length-map-range_with_len (shown_page (replicate ranges None)) 0 (range_pages * length (replicate ranges None)) ∙ ap (λ (k : ℕ). range_pages * k) (length-replicate ranges None)

-- ---- the whole stand

abbrev pub fresh_stand : Team → ℕ → Stand
fresh_stand t n =
    let files = fresh_files t.files.table (firsts_of t) (leasers_for (count_of t) t.guests) n in
    let ranges = fresh_ranges t.ranges.table (count_of t) (length (firsts_of t)) t.guests n in
    stand (shared_wire t.daemon) (files_board files) (ranges_board ranges)

pub stand_is : (t : Team) (n : ℕ) (j : Job) → IsTeam t → IsOut t n j → stand_of j ≡ fresh_stand t n
stand_is t n j is o =
    let a = o.files ∙ new_files_pass t n is in
    let b = o.ranges ∙ new_ranges_pass t n is in
    let w = o.wire in
    λ i. stand (w i) (files_board (a i)) (ranges_board (b i))

abbrev no_slots : ℕ → List (Option Granted)
no_slots k = replicate k None

none_granted : (k : ℕ) → granted_in (no_slots k) ≡ 0
unfolding granted_in
none_granted zero = refl
none_granted (suc k) = none_granted k

none_leased : (file k : ℕ) → leases_of file (no_slots k) ≡ 0
unfolding leases_of
none_leased file zero = refl
none_leased file (suc k) = none_leased file k

none_pinned : (range k : ℕ) → pins_of range (no_slots k) ≡ 0
unfolding pins_of
none_pinned range zero = refl
none_pinned range (suc k) = none_pinned range k

pub holds_fresh : (t : Team) (n : ℕ) → HasHolds (fresh_stand t n) no_holds
holds_fresh t n =
    let a = t.files.table in
    let fs = firsts_of t in
    let l = leasers_for (count_of t) t.guests in
    let b = t.ranges.table in
    record {
      asked = omega arith;
      slots = length-replicate {A = Option Granted} max_holds None;
      behind = λ k low. same_at {A = Option Granted} None max_holds k;
      each = λ k g at. absurd (none_is g (sym (same_at {A = Option Granted} None max_holds k) ∙ at));
      leases = λ file. fresh_leases a fs l n file ∙ sym (none_leased file max_holds);
      pins = λ range. fresh_pins b (count_of t) (length fs) t.guests n range ∙ sym (none_pinned range max_holds);
      all_leases = fresh_no_leases a fs l n ∙ sym (none_granted max_holds);
      all_pins = fresh_no_pins b (count_of t) (length fs) t.guests n ∙ sym (none_granted max_holds);
    }

may_when : (n guests : ℕ) → n < guests → nat_lt n guests ≡ true
may_when n guests lt = grind (arith, lt)

leasers_with : (ranges guests : ℕ) → 0 < ranges → leasers_for ranges guests ≡ guests
leasers_with ranges guests some = ap (λ (b : Bool). if b then 0 else guests) (ne_eqb ranges 0 (λ none. absurd (omega (arith, some, none))))

pub idle_fresh : (t : Team) (n : ℕ) → IsTeam t → n < t.guests → IsIdle (fresh_stand t n) t.refs no_holds
idle_fresh t n is lt =
    let a = t.files.table in
    let fs = firsts_of t in
    let l = leasers_for (count_of t) t.guests in
    let b = t.ranges.table in
    let r = count_of t in
    let served = is.served in
    let many = fresh_count a fs l n in
    let ranges_are = fresh_ranges_count b r (length fs) t.guests n in
    record {
      home = record {
        stands = record {
          refs_of = served.refs_of ∙ sym many;
          logs = fresh_logs b r (length fs) t.guests n ∙ sym many;
          may_take = may_when n t.guests lt;
          turn = fresh_turn a fs l n;
          serving = λ honest. record {
            there = (let z = served.there in omega (arith, z, many));
            pages = fresh_pages b r (length fs) t.guests n ∙ sym served.pages;
            started = served.started;
            ready = λ whole. absurd (true≢false whole);
            nodes = λ file near. served.nodes file (let z = served.refs_of in omega (arith, z, near));
            handles = λ file near. served.handles file (let z = served.refs_of in omega (arith, z, near));
          };
        };
        plain = λ honest whole. absurd (true≢false whole);
      };
      honest = refl;
      tree = fresh_tree b r (length fs) t.guests n;
      moves = fresh_moves b r (length fs) t.guests n;
      looks = fresh_looks b r (length fs) t.guests n;
      may_lease = λ some. ap (nat_lt n) (leasers_with r t.guests (omega (arith, some, ranges_are))) ∙ may_when n t.guests lt;
      unbarred = fresh_bar a fs l n;
      holds = holds_fresh t n;
      sizes = λ shared. refl;
    }

-- ---- a guest that is alone

pub leases_alone : (ranges guests g : ℕ) → g < guests → (guests ≡ 1) ⊎ (ranges ≡ 0) → others_lease g (leasers_for ranges guests) ≡ false
leases_alone zero guests g lt alone = refl
leases_alone (suc k) guests g lt (inl one) = let z : g ≡ 0 = omega arith in ap (others_lease g) (leasers_with (suc k) guests (omega arith)) ∙ (λ i. others_lease (z i) (one i))
leases_alone (suc k) guests g lt (inr none) = absurd (omega arith)

pub takes_alone : (guests g : ℕ) → g < guests → guests ≡ 1 → others_move g guests ≡ false
takes_alone guests g lt one = let z : g ≡ 0 = omega arith in λ i. others_move (z i) (one i)
