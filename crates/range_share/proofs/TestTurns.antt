-- What the tests' guests have in hand, and that every pass is in at the end.
use Rattle.std.proofs.Common.{◌≡◌, ◌≢◌, ◌∙◌, ap, sym, subst, refl, ℕ, zero, suc, ◌+◌, ◌-◌, ◌<◌, ◌≤◌, arith, false, List, [], ◌∷◌, length, get_or, get_or-set_same, slice_get, replicate, Option, None, ⊎_elim}
use Rattle.std.specs.Prelude.{sum, unwrap_or}
use Rattle.std.proofs.lemmas.List.Sums.{sum_by-cons, sum_by-set}
use Rattle.std.proofs.lemmas.Option.{same_Some, none-some}
use mathlib.Core.Logic.{dite}
use native.Mathlib.Decide.{ℕ_discrete}
use mathlib.Core.Option.{some, some-injective, some-ne-none}
use lib.ListN.{get_elem?}
use Rattle.atomic_table.proofs.Lists.{at_set}
use Rattle.atomic_table.specs.Seated.{TableId}
use Rattle.seats.specs.Views.{Given, guests, root, AllIn, unused, opened, out, back}
use Rattle.page_map.specs.Board.{MapView, Hands, RangesView, log_at}
use Rattle.page_map.specs.declared.ranges.Placed.{Placed}
use Rattle.page_map.specs.Logs.{placed_at}
use Rattle.range_tree.specs.Ranges.{tree_of, with_pin, pins_on as board_pins, unpinned as board_unpinned}
use Rattle.window_core.specs.declared.states.Pin.{Pin}
use Rattle.window_core.specs.declared.states.RangeState.TheVariants as states
use Rattle.window_core.specs.Window.{Window, no_side, new_window, pins_on}
use Rattle.window_core.specs.Shown.{Branch, listed}
use Rattle.window_core.proofs.Places.{within}
use Rattle.range_share.specs.Table.{Mine, Noted, Knows, IsIdle, no_branch, branch_in, moves_in, not_moving, nothing_of, only_seen, stays_put}
use Rattle.range_share.specs.Steps.{IsShowing, ranges_of}
use Rattle.range_share.specs.Known.{Known, TookIn, first_pass, parent_pass, child_pass}
use Rattle.range_share.specs.Boards.{board_of, numbers_of, PinsSeen}
use Rattle.range_share.specs.Turns.{Has, IsSame}
use Rattle.range_share.proofs.Parts.{get_map}
use Rattle.range_share.proofs.Coming.{merged_had}
use Rattle.range_share.proofs.Boarding.{none_is, no_tree, no_move}
use Rattle.range_share.proofs.BoardsCore.{pin_near}
use Rattle.range_share.proofs.BoardsPins.{pins_total}

-- ---- a pass with nothing in hand, and its board

-- it has no pins, of which anything would have to be seen
pub idle_seen : (v : Knows) → IsIdle v.mine → PinsSeen v
idle_seen v idle k p at = absurd (none-some p (ap (λ (ps : List Pin). slice_get ps k) (sym idle.pins) ∙ at))

sum_none : (F : ℕ → ℕ) (n : ℕ) → ((i : ℕ) → F i ≡ 0) → sum (listed F n) ≡ 0
sum_none F zero none = refl
sum_none F (suc n) none = let a = sum_by-cons (λ (k : ℕ). k) (F 0) (listed (λ i. F (suc i)) n) in let b = sum_none (λ i. F (suc i)) n (λ i. none (suc i)) in let c = none 0 in omega (arith, a, b, c)

pub idle_pins : (p : Known) → IsIdle p.view.mine → sum (board_of p).hands.pins ≡ 0
idle_pins p idle = sum_none (λ r. pins_on r p.view.mine.shown.pins) (ranges_of p.view) (λ r. ap (pins_on r) idle.pins)

-- a guest that was made of it
pub idle_has : (p q : Known) → q ≡ p → IsIdle p.view.mine → Has (board_of q) None 0 0
idle_has p q e idle = subst (λ (k : Known). Has (board_of k) None 0 0) (sym e) (record { tree_is = none_is p.view idle.trees; count = idle_pins p idle; there = λ l. absurd (omega (arith, l)) })

none_in : (ps : List Pin) → length ps ≤ 0 → ps ≡ []
none_in [] few = refl
none_in (x ∷ ps) few = absurd (omega (arith, few))

pub has_idle : (p : Known) (r : ℕ) → IsShowing p.view → Has (board_of p) None r 0 → (board_of p).hands.moves ≡ None → IsIdle p.view.mine
has_idle p r s has moves = record {
  moves = no_move p.view moves;
  trees = no_tree p.view has.tree_is;
  pins = none_in p.view.mine.shown.pins (let t = pins_total (ranges_of p.view) p.view.mine.shown.pins (pin_near p.view s) in let none = has.count in omega (arith, t, none));
}

-- ---- one pin more, and one less

at_most : (xs : List ℕ) (r : ℕ) → get_or xs r 0 ≤ sum xs
at_most [] r = omega arith
at_most (x ∷ xs) zero = let a = sum_by-cons (λ (k : ℕ). k) x xs in omega (arith, a)
at_most (x ∷ xs) (suc r) = let a = sum_by-cons (λ (k : ℕ). k) x xs in let h = at_most xs r in omega (arith, a, h)

-- where all pins are on one range, each of them counts there
all_on : (v : MapView) (tree : Option ℕ) (range pins r : ℕ) → Has v tree range pins → (0 < pins → r ≡ range) → board_pins v r ≡ pins
all_on v tree range pins r has same = dite (ℕ_discrete pins 0)
    (λ z. let a = at_most v.hands.pins r in let n = has.count in omega (arith, a, n, z))
    (λ ne. let l : 0 < pins = omega (arith, ne) in ap (λ i. board_pins v i) (same l) ∙ has.there l)

pub has_pinned : (v w : MapView) (tree : Option ℕ) (range pins r : ℕ) → Has v tree range pins → r < length v.hands.pins → (0 < pins → r ≡ range) → w ≡ with_pin v r → Has w tree r (pins + 1)
has_pinned v w tree range pins r has near same e =
    let x = board_pins v r in
    let s = sum_by-set (λ (k : ℕ). k) v.hands.pins r (x + 1) 0 near in
    let n = has.count in
    let on : x ≡ pins = all_on v tree range pins r has same in
    record {
      tree_is = ap (λ (m : MapView). m.hands.tree) e ∙ has.tree_is;
      count = ap (λ (m : MapView). sum m.hands.pins) e ∙ omega (arith, s, n);
      there = λ _. ap (λ (m : MapView). board_pins m r) e ∙ (get_or-set_same v.hands.pins r (x + 1) 0 near ∙ ap (λ k. k + 1) on);
    }

pub has_unpinned : (v w : MapView) (tree : Option ℕ) (range pins : ℕ) → Has v tree range pins → 0 < pins → w ≡ board_unpinned v range → Has w tree range (pins - 1)
has_unpinned v w tree range pins has l e =
    let x = board_pins v range in
    let on : x ≡ pins = has.there l in
    let near : range < length v.hands.pins = within v.hands.pins range 0 (λ z. omega (arith, l, on, z)) in
    let s = sum_by-set (λ (k : ℕ). k) v.hands.pins range (x - 1) 0 near in
    let n = has.count in
    record {
      tree_is = ap (λ (m : MapView). m.hands.tree) e ∙ has.tree_is;
      count = ap (λ (m : MapView). sum m.hands.pins) e ∙ omega (arith, s, n, on, l);
      there = λ _. ap (λ (m : MapView). board_pins m range) e ∙ (get_or-set_same v.hands.pins range (x - 1) 0 near ∙ ap (λ k. k - 1) on);
    }

-- ---- what stays of a pass

numbers_same : (t u : TableId) → numbers_of t ≡ numbers_of u → t ≡ u
numbers_same t u e = λ i. record {
  words = get_or (e i) 0 0;
  slots = get_or (e i) 1 0;
  views_name = get_or (e i) 2 0;
  atom = get_or (e i) 3 0;
  block = get_or (e i) 4 0;
  offset = get_or (e i) 5 0;
  slot_names = tail_of (tail_of (tail_of (tail_of (tail_of (tail_of (e i))))));
}
  where
    tail_of : List ℕ → List ℕ
    tail_of [] = []
    tail_of (x ∷ xs) = xs

pub same_table : (p q : Known) → IsSame (board_of p) (board_of q) → q.table ≡ p.table
same_table p q same = numbers_same q.table p.table (same_Some (numbers_of q.table) (numbers_of p.table) same.0)

-- where a chunk is placed, in the same tree with the same log
pub found_still : (u v : MapView) (chunk : ℕ) (r o : Option Placed) → v.hands ≡ u.hands → v.ranges ≡ u.ranges → r ≡ placed_at (log_at u (tree_of u)) chunk → r ≡ o → placed_at (log_at v (tree_of v)) chunk ≡ o
found_still u v chunk r o hands ranges found is =
    ap (λ (h : Hands). placed_at (get_or v.ranges.logs (unwrap_or h.tree 0) []) chunk) hands ∙ (ap (λ (x : RangesView). placed_at (get_or x.logs (unwrap_or u.hands.tree 0) []) chunk) ranges ∙ (sym found ∙ is))

-- ---- passes that are split off

-- it has nothing in hand
pub child_idle : (p : Known) (n : ℕ) → IsIdle (child_pass p n).view.mine
child_idle p n = record {
  moves = λ r. get_map stays_put p.view.mine.shown.moving r false;
  trees = λ f. ap (λ (b : Branch). b.had) (get_map only_seen p.view.mine.shown.branches f no_branch);
  pins = refl;
}

-- the first pass has nothing in hand
pub first_idle : (t : TableId) (ranges files movers : ℕ) → IsIdle (first_pass t ranges files movers).view.mine
first_idle t ranges files movers = let h : Window = new_window ranges files guests in record {
  moves = λ r. get_map not_moving h.states r states.Free;
  trees = λ f. ap (λ (b : Branch). b.had) (get_map nothing_of h.sides f no_side);
  pins = refl;
}

-- nor has it when it gave a number out, or took one in
pub parent_idle : (p q : Known) (n : ℕ) → q ≡ parent_pass p n → IsIdle p.view.mine → IsIdle q.view.mine
parent_idle p q n e idle = subst (λ (k : Known). IsIdle k.view.mine) (sym e) idle

pub joined_idle : (p o q : Known) → TookIn p o q → IsIdle p.view.mine → IsIdle q.view.mine
joined_idle p o q took idle = record {
  moves = λ r. ap (λ (k : Known). moves_in k.view.mine.shown.moving r) took.is ∙ idle.moves r;
  trees = λ f. ap (λ (k : Known). (branch_in k.view.mine.shown.branches f).had) took.is ∙ (merged_had p.view.mine.shown.branches o.view.mine.shown.branches f ∙ idle.trees f);
  pins = ap (λ (k : Known). k.view.mine.shown.pins) took.is ∙ idle.pins;
}

-- ---- numbers

-- which numbers are out: none, or some of these
abbrev Outs : (ℕ → Type 0) → Known → Type 0
Outs P p = (k : ℕ) → get_elem? p.view.numbers k ≡ some out → P k

first_outs : (t : TableId) (ranges files movers : ℕ) → Outs (λ k. ⊥) (first_pass t ranges files movers)
first_outs t ranges files movers k is = ⊎_elim (λ (x : (k ≡ root) × (opened ≡ out)). let e = x.1 in absurd (cc))
    (λ (x : (k ≢ root) × (get_elem? (replicate guests unused) k ≡ some out)). all_unused guests k x.1) (at_set (replicate guests unused) root k opened out is)
  where
    all_unused : (n k : ℕ) → get_elem? (replicate {A = Given Mine Noted} n unused) k ≡ some out → ⊥
    all_unused zero k e = some-ne-none out (sym e)
    all_unused (suc n) zero e = let x : unused ≡ out = some-injective unused out e in absurd (cc)
    all_unused (suc n) (suc k) e = all_unused n k e

split_outs : (P : ℕ → Type 0) (p q : Known) (n : ℕ) → q ≡ parent_pass p n → P n → ((k : ℕ) → k ≢ n → get_elem? p.view.numbers k ≡ some out → P k) → Outs P q
split_outs P p q n kept here else_ k is = ⊎_elim (λ (x : (k ≡ n) × (out ≡ out)). subst P (sym x.0) here) (λ (x : (k ≢ n) × (get_elem? p.view.numbers k ≡ some out)). else_ k x.0 x.1)
    (at_set p.view.numbers n k out out (sym (ap (λ (z : Known). get_elem? z.view.numbers k) kept) ∙ is))

join_outs : (P Q : ℕ → Type 0) (p o q : Known) → TookIn p o q → Outs P p → ((k : ℕ) → k ≢ o.view.guest → P k → Q k) → Outs Q q
join_outs P Q p o q took outs less k is = ⊎_elim (λ (x : (k ≡ o.view.guest) × (back o.view.mine o.view.noted ≡ out)). let e = x.1 in absurd (cc))
    (λ (x : (k ≢ o.view.guest) × (get_elem? p.view.numbers k ≡ some out)). less k x.0 (outs k x.1))
    (at_set p.view.numbers o.view.guest k (back o.view.mine o.view.noted) out (sym (ap (λ (z : Known). get_elem? z.view.numbers k) took.is) ∙ is))

-- one pass was given out and joined
pub all_in_once : (t : TableId) (ranges files movers : ℕ) (p a b x : Known) (m : ℕ) → p ≡ first_pass t ranges files movers → a ≡ parent_pass p m → TookIn a x b → x.view.guest ≡ m → AllIn b.view
all_in_once t ranges files movers p a b x m first sa jb gx = (
  ap (λ (k : Known). k.view.guest) jb.is ∙ (ap (λ (k : Known). k.view.guest) sa ∙ ap (λ (k : Known). k.view.guest) first),
  join_outs (λ k. k ≡ m) (λ k. ⊥) a x b jb
      (split_outs (λ k. k ≡ m) p a m sa refl (λ k ne is. absurd (first_outs t ranges files movers k (sym (ap (λ (z : Known). get_elem? z.view.numbers k) first) ∙ is)))) (λ k ne e. ne (e ∙ sym gx)),
)

-- two were given out and joined, the second first
pub all_in_again : (t : TableId) (ranges files movers : ℕ) (p a b c d x y : Known) (m n : ℕ)
    → p ≡ first_pass t ranges files movers → a ≡ parent_pass p m → b ≡ parent_pass a n → TookIn b y c → TookIn c x d → x.view.guest ≡ m → y.view.guest ≡ n → AllIn d.view
all_in_again t ranges files movers p a b c d x y m n first sa sb jc jd gx gy =
    let one : Outs (λ k. k ≡ m) a = split_outs (λ k. k ≡ m) p a m sa refl (λ k ne is. absurd (first_outs t ranges files movers k (sym (ap (λ (z : Known). get_elem? z.view.numbers k) first) ∙ is))) in
    let two : (k : ℕ) → k ≢ n → get_elem? b.view.numbers k ≡ some out → k ≡ m = λ k ne is. ⊎_elim (λ (z : (k ≡ n) × (out ≡ out)). absurd (ne z.0)) (λ (z : (k ≢ n) × (get_elem? a.view.numbers k ≡ some out)). one k z.1)
    (at_set a.view.numbers n k out out (sym (ap (λ (z : Known). get_elem? z.view.numbers k) sb) ∙ is)) in
    let left : Outs (λ k. k ≡ m) c = λ k is. ⊎_elim (λ (z : (k ≡ y.view.guest) × (back y.view.mine y.view.noted ≡ out)). let e = z.1 in absurd (cc))
    (λ (z : (k ≢ y.view.guest) × (get_elem? b.view.numbers k ≡ some out)). two k (λ e. z.0 (e ∙ sym gy)) z.1)
    (at_set b.view.numbers y.view.guest k (back y.view.mine y.view.noted) out (sym (ap (λ (z : Known). get_elem? z.view.numbers k) jc.is) ∙ is)) in (
      ap (λ (k : Known). k.view.guest) jd.is ∙ (ap (λ (k : Known). k.view.guest) jc.is ∙ (ap (λ (k : Known). k.view.guest) sb ∙ (ap (λ (k : Known). k.view.guest) sa ∙ ap (λ (k : Known). k.view.guest) first))),
      join_outs (λ k. k ≡ m) (λ k. ⊥) c x d jd left (λ k ne e. ne (e ∙ sym gx)),
    )
