-- What is found in the tree that is had, on any board of ranges.
use Rattle.std.proofs.Common.{◌≡◌, ◌∙◌, ap, sym, refl, subst, ℕ, ◌<◌, false, length, Option, Some, inr}
use Rattle.std.specs.Prelude.{IfSome, IsSome, unwrap_or}
use Rattle.page_map.specs.declared.pages.Mode.{Mode}
use Rattle.page_map.specs.declared.pages.Mode.TheVariants as modes
use Rattle.page_map.specs.declared.ranges.Placed.{Placed}
use Rattle.page_map.specs.declared.ranges.Target.{Target}
use Rattle.page_map.specs.Logs.{Slot, is_writable, placed_at}
use Rattle.page_map.specs.Board.{MapView, log_at}
use Rattle.range_tree.specs.Ranges.{IsSoundRanges, IsMapped, Targets, CanUpgrade, IsRaisable, tree_of, tree_slot, slot_at, range_count}
use Rattle.range_tree.proofs.Entries.{slot_placed, slot_in-placed}

-- a chunk that is found is in its range
pub found-in-tree : (v : MapView) (file chunk : ℕ) (p : Placed) → IsSoundRanges v → v.hands.tree ≡ Some file → placed_at (log_at v (tree_of v)) chunk ≡ Some p → tree_slot v p.range ≡ Some (slot_placed chunk p)
unfolding slot_at
found-in-tree v file chunk p s had found =
    let known : file < length v.ranges.logs = subst (λ (t : Option ℕ). IfSome t (λ f. f < length v.ranges.logs)) had s.tree in
    let at : placed_at (log_at v file) chunk ≡ Some p = ap (λ (t : Option ℕ). placed_at (log_at v (unwrap_or t 0)) chunk) (sym had) ∙ found in
    ap (λ (t : Option ℕ). slot_at t v.ranges.logs p.range) had ∙ slot_in-placed (range_count v) (log_at v file) chunk p (s.logs file known) at

pub found-some : (v : MapView) (file chunk : ℕ) (p : Placed) → IsSoundRanges v → v.hands.tree ≡ Some file → placed_at (log_at v (tree_of v)) chunk ≡ Some p → IsSome (tree_slot v p.range)
found-some v file chunk p s had found = subst (λ (o : Option Slot). IsSome o) (sym (found-in-tree v file chunk p s had found)) refl

reading-only : (m : Mode) → is_writable m ≡ false → m ≡ modes.R
unfolding is_writable
reading-only modes.R e = refl
reading-only modes.W e = absurd (cc)

-- a chunk that is placed for reading may be upgraded, where a look at its range sees it mapped for writing
pub can-upgrade : (v w : MapView) (file chunk : ℕ) (p : Placed) → IsSoundRanges v → v.hands.tree ≡ Some file → placed_at (log_at v (tree_of v)) chunk ≡ Some p → is_writable p.mode ≡ false → p.range < range_count v →
    Targets v p.range (Some (record { file = file; chunk = chunk; mode = modes.W })) w → CanUpgrade w chunk
unfolding IsRaisable
can-upgrade v w file chunk p s had found low within t =
    let seen : Target = record { file = file; chunk = chunk; mode = modes.W } in
    let mapped : IsMapped v p.range (Some seen) = t.held (s.held p.range within (inr (found-some v file chunk p s had found))) in
    let file_is : file ≡ tree_of v = ap (λ (o : Option ℕ). unwrap_or o 0) (sym had) in
    let own : IsMapped v p.range (Some (record { file = tree_of v; chunk = chunk; mode = modes.W })) = subst (λ f. IsMapped v p.range (Some (record { file = f; chunk = chunk; mode = modes.W }))) file_is mapped in
    let raisable : IsRaisable v chunk (placed_at (log_at v (tree_of v)) chunk) = subst (λ (o : Option Placed). IsRaisable v chunk o) (sym found) (reading-only p.mode low, own) in
    subst (λ (m : MapView). CanUpgrade m chunk) (sym t.counted) (record { tree = subst (λ (o : Option ℕ). IsSome o) (sym had) refl; raisable = raisable })
