-- A pass of the ranges' table that has nothing in hand, as its board shows it, and the first pass that takes it in.
use Rattle.std.proofs.Common.{◌≡◌, ◌≢◌, ◌∙◌, ap, sym, subst, refl, ℕ, zero, suc, ◌≤◌, arith, List, [], ◌∷◌, ◌++◌, length, map, set, sum, None, append_assoc}
use mathlib.Core.Option.{some}
use lib.ListN.{get_elem?}
use Rattle.atomic_table.proofs.Lists.{set_else}
use Rattle.seats.specs.Views.{out, back}
use Rattle.seats.proofs.Seating.{set_there}
use Rattle.page_map.specs.declared.ranges.LogEntry.{LogEntry}
use Rattle.page_map.specs.Board.{log_at}
use Rattle.window_core.specs.declared.states.Pin.{Pin}
use Rattle.window_core.specs.Laws.{Begins}
use Rattle.window_core.specs.Shown.{Branch}
use Rattle.range_share.specs.Table.{IsIdle, branch_in, no_branch, merged_branches}
use Rattle.range_share.specs.Steps.{IsShowing, branch_of, ranges_of, files_of}
use Rattle.range_share.specs.Known.{Known, TookIn}
use Rattle.range_share.specs.Boards.{has_tree, log_of, board_of}
use Rattle.range_share.proofs.BoardsCore.{pin_near}
use Rattle.range_share.proofs.BoardsPins.{pins_total}
use Rattle.range_share.proofs.Listing.{none_true}
use Rattle.range_share.proofs.Parts.{get_map}

-- ---- the board of a pass

no_items : (ps : List Pin) → length ps ≤ 0 → ps ≡ []
no_items [] few = refl
no_items (p ∷ ps) few = absurd (omega (arith, few))

-- it has no tree, moves no range and has no pin where its board hasn't
pub ranges_idle : (p : Known) → IsShowing p.view → (board_of p).hands.tree ≡ None → (board_of p).hands.moves ≡ None → sum (board_of p).hands.pins ≡ 0 → IsIdle p.view.mine
ranges_idle p shows tree moves pins = let branches : List Branch = p.view.mine.shown.branches in record {
  moves = none_true p.view.mine.shown.moving moves;
  trees = λ f. sym (get_map has_tree branches f no_branch) ∙ none_true (map has_tree branches) tree f;
  pins = let few = pins_total (ranges_of p.view) p.view.mine.shown.pins (pin_near p.view shows) in no_items p.view.mine.shown.pins (omega (arith, few, pins));
}

-- its board shows what it has seen of the logs
pub log_shown : (p : Known) (f : ℕ) → log_at (board_of p) f ≡ (branch_of p.view f).seen
log_shown p f = get_map log_of p.view.mine.shown.branches f no_branch

-- ---- the first pass

merged_long : (ms ns : List Branch) → length (merged_branches ms ns) ≡ length ms
merged_long [] ns = refl
merged_long (m ∷ ms) [] = refl
merged_long (m ∷ ms) (n ∷ ns) = ap suc (merged_long ms ns)

merged_had : (ms ns : List Branch) (f : ℕ) → (branch_in (merged_branches ms ns) f).had ≡ (branch_in ms f).had
merged_had [] ns f = refl
merged_had (m ∷ ms) [] f = refl
merged_had (m ∷ ms) (n ∷ ns) zero = refl
merged_had (m ∷ ms) (n ∷ ns) (suc f) = merged_had ms ns f

pub begins_on : (a b c : List LogEntry) → Begins a b → Begins b c → Begins a c
begins_on a b c x y = (x.0 ++ y.0, sym (append_assoc a x.0 y.0) ∙ (ap (λ (l : List LogEntry). l ++ y.0) x.1 ∙ y.1))

module _ (p o q : Known) (t : TookIn p o q) where
  pub ranges_table : q.table ≡ p.table
  ranges_table = ap (λ (k : Known). k.table) t.is

  pub ranges_guest : q.view.guest ≡ p.view.guest
  ranges_guest = ap (λ (k : Known). k.view.guest) t.is

  pub ranges_long : ranges_of q.view ≡ ranges_of p.view
  ranges_long = ap (λ (k : Known). ranges_of k.view) t.is

  pub logs_long : files_of q.view ≡ files_of p.view
  logs_long = ap (λ (k : Known). files_of k.view) t.is ∙ merged_long p.view.mine.shown.branches o.view.mine.shown.branches

  pub ranges_still : IsIdle p.view.mine → IsIdle q.view.mine
  ranges_still idle = subst (λ (k : Known). IsIdle k.view.mine) (sym t.is) (record {
    moves = idle.moves;
    trees = λ f. merged_had p.view.mine.shown.branches o.view.mine.shown.branches f ∙ idle.trees f;
    pins = idle.pins;
  })

  pub ranges_back : (n : ℕ) → get_elem? p.view.numbers n ≡ some out → o.view.guest ≡ n → get_elem? q.view.numbers n ≡ some (back o.view.mine o.view.noted)
  ranges_back n is_out who = ap (λ (k : Known). get_elem? k.view.numbers n) t.is
      ∙ (ap (λ i. get_elem? (set p.view.numbers i (back o.view.mine o.view.noted)) n) who ∙ set_there p.view.numbers n out (back o.view.mine o.view.noted) is_out)

  pub ranges_else : (n : ℕ) → o.view.guest ≡ n → (i : ℕ) → i ≢ n → get_elem? q.view.numbers i ≡ get_elem? p.view.numbers i
  ranges_else n who i ne = ap (λ (k : Known). get_elem? k.view.numbers i) t.is ∙ set_else p.view.numbers o.view.guest i (back o.view.mine o.view.noted) (λ e. ne (e ∙ who))
