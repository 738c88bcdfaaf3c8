-- A pass takes the tree of a file and gives it back.
use Rattle.std.proofs.Common.{◌≡◌, ◌≢◌, ℕ, ◌<◌, List, true, sym, ap, ◌∙◌, subst, get_or-set_same, get_or-set_other}
use Rattle.std.specs.Prelude.{IsTrue}
use mathlib.Core.Logic.{dite}
use native.Mathlib.Decide.{ℕ_discrete}
use Rattle.page_map.specs.declared.ranges.LogEntry.{LogEntry}
use Rattle.page_map.specs.Logs.{sound}
use Rattle.window_core.specs.Window.{enter, leave}
use Rattle.window_core.specs.Shown.{Branch}
use Rattle.range_share.specs.Table.{Knows, IsIdle, branch_in, moves_in, no_branch}
use Rattle.range_share.specs.Steps.{IsShowing, Always, branch_of, ranges_of, files_of}
use Rattle.range_share.specs.Known.{Known, IsDeed, IsReread, entered_branch, left_branch}
use Rattle.range_share.proofs.Parts.{ranges_are, seen_is, side_there}
use Rattle.range_share.proofs.Knowing.{guest_kept, numbers_kept, noted_now, same_moving, same_branches}

-- it has nothing in hand then
pub idle_reread : (f : ℕ) (p q : Known) → IsReread f p q → IsIdle p.view.mine → IsIdle q.view.mine
idle_reread f p q r idle = record {
  moves = λ i. ap (λ bs. moves_in bs i) r.moving ∙ idle.moves i;
  trees = r.trees;
  pins = r.pins ∙ idle.pins;
}

-- the log of a tree that is had is sound
pub had_sound : (v : Knows) (f : ℕ) → IsShowing v → (branch_of v f).had ≡ true → IsTrue (sound (ranges_of v) (branch_of v f).seen)
had_sound v f s had = let good = s.good.window_good in
    subst (λ (x : ℕ × List LogEntry). IsTrue (sound x.0 x.1)) (λ i. (sym (ranges_are v s.core s.part) i, sym (seen_is v s.core s.part good f had) i))
    (good.sides_ok f (side_there v s.core s.part f had)).log_sound

-- a tree is had once it is taken
pub enter_has : (f : ℕ) (p q : Known) → f < files_of p.view → IsDeed (enter f) p.view.noted Always p q → (branch_of q.view f).had ≡ true
enter_has f p q near d = let e = d.effect in
    ap (λ (bs : List Branch). (branch_in bs f).had) e.1.branches_are ∙ ap (λ (b : Branch). b.had) (get_or-set_same p.view.mine.shown.branches f (entered_branch e.0 (branch_of p.view f)) no_branch near)

module _ (f : ℕ) (p q r : Known) (near : f < files_of p.view) (taken : IsDeed (enter f) p.view.noted Always p q) (left : IsDeed (leave f) q.view.noted Always q r) where
  count : files_of q.view ≡ files_of p.view
  count = same_branches (enter f) p.view.mine q.view.mine taken.effect

  here : branch_of r.view f ≡ left_branch (branch_of q.view f)
  here = ap (λ (bs : List Branch). branch_in bs f) left.effect.branches_are ∙ get_or-set_same q.view.mine.shown.branches f (left_branch (branch_of q.view f)) no_branch (subst (λ n. f < n) (sym count) near)

  there : branch_of q.view f ≡ entered_branch taken.effect.0 (branch_of p.view f)
  there = ap (λ (bs : List Branch). branch_in bs f) taken.effect.1.branches_are ∙ get_or-set_same p.view.mine.shown.branches f (entered_branch taken.effect.0 (branch_of p.view f)) no_branch near

  elsewhere : (i : ℕ) → i ≢ f → branch_of r.view i ≡ branch_of p.view i
  elsewhere i ne = ap (λ (bs : List Branch). branch_in bs i) left.effect.branches_are ∙ (get_or-set_other q.view.mine.shown.branches f i (left_branch (branch_of q.view f)) no_branch ne
      ∙ (ap (λ (bs : List Branch). branch_in bs i) taken.effect.1.branches_are ∙ get_or-set_other p.view.mine.shown.branches f i (entered_branch taken.effect.0 (branch_of p.view f)) no_branch ne))

  -- what was seen while the tree was had is seen
  pub seen_then : (branch_of r.view f).seen ≡ (branch_of q.view f).seen
  seen_then = ap (λ (b : Branch). b.seen) here

  pub ranges_then : ranges_of r.view ≡ ranges_of q.view
  ranges_then = same_moving (leave f) q.view.mine r.view.mine left.effect

  pub numbers_then : r.view.numbers ≡ p.view.numbers
  numbers_then = numbers_kept (leave f) q.view.noted Always q.view r.view left.does ∙ numbers_kept (enter f) p.view.noted Always p.view q.view taken.does

  pub reread : IsIdle p.view.mine → IsReread f p r
  reread idle = record {
    table = ap (λ (k : Known). k.table) left.kept ∙ ap (λ (k : Known). k.table) taken.kept;
    guest = guest_kept (leave f) q.view.noted Always q.view r.view left.does ∙ guest_kept (enter f) p.view.noted Always p.view q.view taken.does;
    numbers = numbers_then;
    noted = noted_now (leave f) q.view.noted Always q.view r.view left.does ∙ noted_now (enter f) p.view.noted Always p.view q.view taken.does;
    ranges = ranges_then ∙ same_moving (enter f) p.view.mine q.view.mine taken.effect;
    files = same_branches (leave f) q.view.mine r.view.mine left.effect ∙ count;
    movers = left.effect.movers_are ∙ taken.effect.1.movers_are;
    grown = (taken.effect.0, sym (seen_then ∙ ap (λ (b : Branch). b.seen) there));
    others = λ i ne. ap (λ (b : Branch). b.seen) (elsewhere i ne);
    trees = λ i. dite (ℕ_discrete i f) (λ is. ap (λ (n : ℕ). (branch_of r.view n).had) is ∙ ap (λ (b : Branch). b.had) here) (λ ne. ap (λ (b : Branch). b.had) (elsewhere i ne) ∙ idle.trees i);
    moving = left.effect.moving_is ∙ taken.effect.1.moving_is;
    pins = left.effect.pins_are ∙ taken.effect.1.pins_are;
  }

  pub sound_then : IsShowing q.view → (branch_of q.view f).had ≡ true → IsTrue (sound (ranges_of r.view) (branch_of r.view f).seen)
  sound_then s had = subst (λ (x : ℕ × List LogEntry). IsTrue (sound x.0 x.1)) (λ i. (sym ranges_then i, sym seen_then i)) (had_sound q.view f s had)
