-- What a deed changes of a pass, and so of its board.
use Rattle.std.proofs.Common.{◌≡◌, ◌∙◌, ap, sym, subst, refl, ℕ, ◌<◌, arith, true, false, List, [], ◌++◌, map, length, set, get_or, Option, Some, None, nat_lt}
use Rattle.std.specs.Prelude.{unwrap_or}
use Rattle.std.specs.Option.{option_map}
use lib.Seq.{set-get_or, map-set}
use Rattle.std.proofs.lemmas.List.{length-map}
use Rattle.page_map.specs.declared.ranges.LogEntry.{LogEntry}
use Rattle.page_map.specs.declared.ranges.Target.{Target}
use Rattle.page_map.specs.Board.{Hands, RangesView, Noted as BoardNoted, log_at}
use Rattle.page_map.specs.Logs.{slot_in}
use Rattle.range_tree.specs.Ranges.{IsButTable, slot_at, tree_slot, tree_of}
use Rattle.window_core.specs.Window.{Deed, after, pins_on}
use Rattle.window_core.specs.Shown.{Branch, listed, is_moving, branch}
use Rattle.window_core.proofs.Grows.{sizes_stay}
use Rattle.range_share.specs.Table.{Core, Mine, Noted, Knows, no_branch, branch_in, others_may}
use Rattle.range_share.specs.Steps.{IsShowing, Treeless, AtRest, branch_of, moves_at, ranges_of, files_of}
use Rattle.range_share.specs.Known.{Known, IsDeed, look_in, aim_in, pinned_in}
use Rattle.range_share.specs.Boards.{numbers_of, has_tree, log_of, noted_of, hands_of, ranges_view, board_of, table_of}
use Rattle.range_share.proofs.Parts.{get_map, at_listed, length_listed, ranges_are, files_are}
use Rattle.range_share.proofs.Listing.{first_none, first_only, none_true, first_within}
use Rattle.range_share.proofs.BoardsCore.{one_tree, one_moved}

-- ---- what stays

-- the table, the guest and the sizes stay, and that is noted
pub record Stays (x : Noted) (p q : Known) : Type 0 where
  pub kept : q ≡ record p { view = q.view }
  pub guest : q.view.guest ≡ p.view.guest
  pub movers : q.view.mine.movers ≡ p.view.mine.movers
  pub noted : q.view.noted ≡ x
  pub ranges : ranges_of q.view ≡ ranges_of p.view
  pub files : files_of q.view ≡ files_of p.view

pub showing : (d : Deed) (x : Noted) (P : Core → Type 0) (p q : Known) → IsDeed d x P p q → IsShowing p.view
showing d x P p q t = record { core = t.does.core; good = t.does.good; part = t.does.part }

pub stays : (d : Deed) (x : Noted) (P : Core → Type 0) (p q : Known) → IsDeed d x P p q → Stays x p q
stays d x P p q t =
    let g : ℕ = p.view.guest in
    let c : Core = t.does.core in
    let size = sizes_stay g c.window d in
    record {
      kept = t.kept;
      guest = ap (λ (v : Knows). v.guest) t.does.is;
      movers = ap (λ (v : Knows). v.mine.movers) t.does.is ∙ sym (ap (λ (m : Mine). m.movers) t.does.part);
      noted = ap (λ (v : Knows). v.noted) t.does.is;
      ranges = ap (λ (v : Knows). ranges_of v) t.does.is ∙ (length-map (after c.window g d).states (is_moving g) ∙ (size.0 ∙ sym (ranges_are p.view c t.does.part)));
      files = ap (λ (v : Knows). files_of v) t.does.is ∙ (length-map (after c.window g d).sides (branch g) ∙ (size.1 ∙ sym (files_are p.view c t.does.part)));
    }

pub table_same : (x : Noted) (p q : Known) → Stays x p q → q.table ≡ p.table
table_same x p q s = ap (λ (k : Known). k.table) s.kept

pub may_same : (x : Noted) (p q : Known) → Stays x p q → p.view.guest < p.view.mine.movers → q.view.guest < q.view.mine.movers
may_same x p q s may = let g = s.guest in let m = s.movers in omega (arith, g, m, may)

-- ---- a board by its parts

pub pinned_same : (x y : Noted) (n m : ℕ) → y.pinned ≡ x.pinned → m ≡ n → listed (λ r. pinned_in r y.pinned) m ≡ listed (λ r. pinned_in r x.pinned) n
pinned_same x y n m e k = λ i. listed (λ r. pinned_in r (e i)) (k i)

pub looks_same : (x y : Noted) (n m : ℕ) → y.looks ≡ x.looks → m ≡ n → listed (λ r. option_map noted_of (look_in r y.looks)) m ≡ listed (λ r. option_map noted_of (look_in r x.looks)) n
looks_same x y n m e k = λ i. listed (λ r. option_map noted_of (look_in r (e i))) (k i)

pub aims_same : (x y : Noted) (n m : ℕ) → y.aims ≡ x.aims → m ≡ n → listed (λ r. aim_in r y.aims) m ≡ listed (λ r. aim_in r x.aims) n
aims_same x y n m e k = λ i. listed (λ r. aim_in r (e i)) (k i)

module _ (x : Noted) (p q : Known) (s : Stays x p q) where
  -- what is noted besides counts of looks is as before
  pub ranges_now : (l : List (List LogEntry)) (ps : List Target) (ls : List (Option BoardNoted)) (ts : List (Option Target)) (n : ℕ) →
      (ranges_view q.view).logs ≡ l → (ranges_view q.view).pinned ≡ ps → (ranges_view q.view).looks ≡ ls → (ranges_view q.view).targets ≡ ts → x.targeted ≡ n → x.sweeps ≡ p.view.noted.sweeps → x.rounds ≡ p.view.noted.rounds →
      ranges_view q.view ≡ record (ranges_view p.view) { logs = l; pinned = ps; looks = ls; targets = ts; targeted = n }
  ranges_now l ps ls ts n logs pinned looks targets count sweeps rounds =
      let counted = ap (λ (y : Noted). y.targeted) s.noted ∙ count in
      let swept = ap (λ (y : Noted). y.sweeps) s.noted ∙ sweeps in
      let round = ap (λ (y : Noted). y.rounds) s.noted ∙ rounds in
      λ i. record {
        guest = s.guest i;
        may_take = nat_lt (s.guest i) (s.movers i);
        others = others_may (s.guest i) (s.movers i);
        logs = logs i;
        pinned = pinned i;
        looks = looks i;
        targets = targets i;
        targeted = counted i;
        sweeps = swept i;
        rounds = round i;
      }

  pub pinned_kept : x.pinned ≡ p.view.noted.pinned → (ranges_view q.view).pinned ≡ (ranges_view p.view).pinned
  pinned_kept e = pinned_same p.view.noted q.view.noted (ranges_of p.view) (ranges_of q.view) (ap (λ (y : Noted). y.pinned) s.noted ∙ e) s.ranges

  pub looks_kept : x.looks ≡ p.view.noted.looks → (ranges_view q.view).looks ≡ (ranges_view p.view).looks
  looks_kept e = looks_same p.view.noted q.view.noted (ranges_of p.view) (ranges_of q.view) (ap (λ (y : Noted). y.looks) s.noted ∙ e) s.ranges

  pub targets_kept : x.aims ≡ p.view.noted.aims → (ranges_view q.view).targets ≡ (ranges_view p.view).targets
  targets_kept e = aims_same p.view.noted q.view.noted (ranges_of p.view) (ranges_of q.view) (ap (λ (y : Noted). y.aims) s.noted ∙ e) s.ranges

  pub hands_now : (h : Hands) → (hands_of q.view).tree ≡ h.tree → (hands_of q.view).moves ≡ h.moves → (hands_of q.view).pins ≡ h.pins → hands_of q.view ≡ h
  hands_now h tree moves pins = λ i. record { tree = tree i; moves = moves i; pins = pins i }

  pub pins_kept : q.view.mine.shown.pins ≡ p.view.mine.shown.pins → (hands_of q.view).pins ≡ (hands_of p.view).pins
  pins_kept e = λ i. listed (λ r. pins_on r (e i)) (s.ranges i)

  pub but_table : (h : Hands) (v : RangesView) → hands_of q.view ≡ h → ranges_view q.view ≡ v → IsButTable (record (board_of p) { hands = h; ranges = v }) (board_of q)
  but_table h v has is =
      let over = ap (λ (k : Known). Some (numbers_of k.table)) s.kept in
      λ i. record { plain = false; over = over i; hands = has i; ranges = is i; table = (board_of q).table }

  pub whole_board : (h : Hands) (v : RangesView) → hands_of q.view ≡ h → ranges_view q.view ≡ v → q.view.mine.shown.maps ≡ p.view.mine.shown.maps → board_of q ≡ record (board_of p) { hands = h; ranges = v }
  whole_board h v has is maps = but_table h v has is ∙ ap (λ m. record (board_of p) { hands = h; ranges = v; table = table_of m }) maps

-- where nothing new is noted
module _ (p q : Known) (s : Stays p.view.noted p q) where
  pub ranges_logs : (l : List (List LogEntry)) → (ranges_view q.view).logs ≡ l → ranges_view q.view ≡ record (ranges_view p.view) { logs = l }
  ranges_logs l logs = ranges_now p.view.noted p q s l (ranges_view p.view).pinned (ranges_view p.view).looks (ranges_view p.view).targets p.view.noted.targeted
      logs (pinned_kept p.view.noted p q s refl) (looks_kept p.view.noted p q s refl) (targets_kept p.view.noted p q s refl) refl refl refl

-- where no more than a word is noted
module _ (x : Noted) (p q : Known) (s : Stays x p q) (same : x ≡ record p.view.noted { words = x.words }) where
  pub ranges_words : (l : List (List LogEntry)) → (ranges_view q.view).logs ≡ l → ranges_view q.view ≡ record (ranges_view p.view) { logs = l }
  ranges_words l logs = ranges_now x p q s l (ranges_view p.view).pinned (ranges_view p.view).looks (ranges_view p.view).targets p.view.noted.targeted
      logs (pinned_kept x p q s (ap (λ (y : Noted). y.pinned) same)) (looks_kept x p q s (ap (λ (y : Noted). y.looks) same)) (targets_kept x p q s (ap (λ (y : Noted). y.aims) same))
      (ap (λ (y : Noted). y.targeted) same) (ap (λ (y : Noted). y.sweeps) same) (ap (λ (y : Noted). y.rounds) same)

-- ---- trees

pub had_at : (v : Knows) (f : ℕ) → get_or (map has_tree v.mine.shown.branches) f false ≡ (branch_of v f).had
had_at v f = get_map has_tree v.mine.shown.branches f no_branch

pub log_is : (p : Known) (f : ℕ) → log_at (board_of p) f ≡ (branch_of p.view f).seen
log_is p f = get_map log_of p.view.mine.shown.branches f no_branch

pub files_count : (p : Known) → length (board_of p).ranges.logs ≡ files_of p.view
files_count p = length-map p.view.mine.shown.branches log_of

pub no_tree : (v : Knows) → (hands_of v).tree ≡ None → Treeless v
no_tree v e f = sym (had_at v f) ∙ none_true (map has_tree v.mine.shown.branches) e f

pub its_tree : (v : Knows) (f : ℕ) → (hands_of v).tree ≡ Some f → (f < files_of v) × ((branch_of v f).had ≡ true)
its_tree v f e = let both = first_within (map has_tree v.mine.shown.branches) f e in (subst (λ n. f < n) (length-map v.mine.shown.branches has_tree) both.0, sym (had_at v f) ∙ both.1)

pub none_is : (v : Knows) → Treeless v → (hands_of v).tree ≡ None
none_is v bare = first_none 0 (map has_tree v.mine.shown.branches) (λ f. had_at v f ∙ bare f)

pub tree_is : (v : Knows) (f : ℕ) → IsShowing v → f < files_of v → (branch_of v f).had ≡ true → (hands_of v).tree ≡ Some f
tree_is v f s near had = first_only 0 f (map has_tree v.mine.shown.branches) (subst (λ n. f < n) (sym (length-map v.mine.shown.branches has_tree)) near) (had_at v f ∙ had) (λ i ne. had_at v i ∙ one_tree v s f had i ne)
    ∙ ap (λ n. Some n) (omega arith)

pub tree_of_is : (p : Known) (f : ℕ) → (hands_of p.view).tree ≡ Some f → tree_of (board_of p) ≡ f
tree_of_is p f e = ap (λ (o : Option ℕ). unwrap_or o 0) e

pub slot_is : (p : Known) (f r : ℕ) → (hands_of p.view).tree ≡ Some f → tree_slot (board_of p) r ≡ slot_in (branch_of p.view f).seen r
unfolding slot_at
slot_is p f r e = ap (λ (o : Option ℕ). slot_at o (board_of p).ranges.logs r) e ∙ ap (λ l. slot_in l r) (log_is p f)

pub no_slot : (p : Known) (r : ℕ) → (hands_of p.view).tree ≡ None → tree_slot (board_of p) r ≡ None
unfolding slot_at
no_slot p r e = ap (λ (o : Option ℕ). slot_at o (board_of p).ranges.logs r) e

-- ---- moved ranges

pub no_move : (v : Knows) → (hands_of v).moves ≡ None → AtRest v
no_move v e r = none_true v.mine.shown.moving e r

pub its_move : (v : Knows) (r : ℕ) → (hands_of v).moves ≡ Some r → (r < ranges_of v) × (moves_at v r ≡ true)
its_move v r e = first_within v.mine.shown.moving r e

pub rest_is : (v : Knows) → AtRest v → (hands_of v).moves ≡ None
rest_is v bare = first_none 0 v.mine.shown.moving bare

pub move_is : (v : Knows) (r : ℕ) → IsShowing v → r < ranges_of v → moves_at v r ≡ true → (hands_of v).moves ≡ Some r
move_is v r s near m = first_only 0 r v.mine.shown.moving near m (λ i ne. one_moved v s r m i ne) ∙ ap (λ n. Some n) (omega arith)

-- ---- branches that are put

module _ (bs : List Branch) (f : ℕ) (b : Branch) where
  pub had_put : b.had ≡ (branch_in bs f).had → map has_tree (set bs f b) ≡ map has_tree bs
  had_put e = map-set has_tree bs f b ∙ (ap (set (map has_tree bs) f) (e ∙ sym (get_map has_tree bs f no_branch)) ∙ set-get_or (map has_tree bs) f false)

  pub seen_put : b.seen ≡ (branch_in bs f).seen → map log_of (set bs f b) ≡ map log_of bs
  seen_put e = map-set log_of bs f b ∙ (ap (set (map log_of bs) f) (e ∙ sym (get_map log_of bs f no_branch)) ∙ set-get_or (map log_of bs) f [])

  pub more_put : (more : List LogEntry) → b.seen ≡ (branch_in bs f).seen ++ more → map log_of (set bs f b) ≡ set (map log_of bs) f (get_or (map log_of bs) f [] ++ more)
  more_put more e = map-set log_of bs f b ∙ ap (set (map log_of bs) f) (e ∙ ap (λ l. l ++ more) (sym (get_map log_of bs f no_branch)))

-- ---- ranges

pub range_count_is : (p : Known) → length (board_of p).hands.pins ≡ ranges_of p.view
range_count_is p = length_listed (λ r. pins_on r p.view.mine.shown.pins) (ranges_of p.view)

pub range_near : (p : Known) (r : ℕ) → r < length (board_of p).hands.pins → r < ranges_of p.view
range_near p r near = subst (λ n. r < n) (range_count_is p) near

pub pins_at : (p : Known) (r : ℕ) → r < ranges_of p.view → get_or (board_of p).hands.pins r 0 ≡ pins_on r p.view.mine.shown.pins
pins_at p r near = at_listed (λ i. pins_on i p.view.mine.shown.pins) (ranges_of p.view) r 0 near
