-- Logs only grow.
use Rattle.std.proofs.Common.{◌≡◌, ℕ, ◌<◌, List, [], ◌∷◌, length, set, slice_index_or, refl, sym, subst, ⊎_elim, length-set}
use Rattle.std.proofs.lemmas.List.{append-nil}
use Rattle.page_map.specs.declared.pages.Mode.TheVariants as modes
use Rattle.page_map.specs.declared.ranges.LogEntry.{LogEntry}
use Rattle.range_tree.specs.Trees.{place_entry, upgrade_entry, remove_entry}
use Rattle.window_core.specs.declared.states.RangeState.TheVariants as ranges
use Rattle.window_core.specs.Window.{Side, Window, no_side, side, HasTree, grown, entered, left, Deed, enter, leave, look, take_free, take_mapped, set_map, settle_mapped, settle_free, pin, unpin, upgrade, Allowed, after}
use Rattle.window_core.specs.Laws.{Begins}
use Rattle.window_core.proofs.Places.{at_put}
use Rattle.window_core.proofs.Keeps.{side_inside}

same : {A : Type 0} (xs : List A) → Begins xs xs
same xs = ([], append-nil xs)

side_grows : (h : Window) (i : ℕ) (s : Side) → i < length h.sides → Begins (side h i).log s.log → (f : ℕ) → Begins (side h f).log (slice_index_or (set h.sides i s) f no_side).log
side_grows h i s near grow f = ⊎_elim
    (λ a. subst (λ (x : Side × ℕ). Begins (side h x.1).log x.0.log) (λ k. (sym a.1 k, sym a.0 k)) grow)
    (λ a. subst (λ (x : Side). Begins (side h f).log x.log) (sym a.1) (same (side h f).log))
    (at_put h.sides i f s no_side near)

entry_grows : (h : Window) (g i : ℕ) (e : LogEntry) → HasTree h g i → (f : ℕ) → Begins (side h f).log (slice_index_or (set h.sides i (grown g e (side h i))) f no_side).log
entry_grows h g i e had = side_grows h i (grown g e (side h i)) (side_inside h i g had) (e ∷ [], refl)

pub logs_grow : (h : Window) (g : ℕ) (d : Deed) → Allowed h g d → (f : ℕ) → Begins (side h f).log (side (after h g d) f).log
logs_grow h g (enter i) a f = side_grows h i (entered g (side h i)) a.0 (same (side h i).log) f
logs_grow h g (leave i) a f = side_grows h i (left (side h i)) (side_inside h i g a) (same (side h i).log) f
logs_grow h g (look r) a f = same (side h f).log
logs_grow h g (take_free r) a f = same (side h f).log
logs_grow h g (take_mapped r i c m) a f = entry_grows h g i (remove_entry r) a.2 f
logs_grow h g (set_map r t) a f = same (side h f).log
logs_grow h g (settle_mapped r i c m) a f = entry_grows h g i (place_entry c r m) a.2 f
logs_grow h g (settle_free r) a f = same (side h f).log
logs_grow h g (pin i c p) a f = same (side h f).log
logs_grow h g (unpin r) a f = same (side h f).log
logs_grow h g (upgrade i c p) a f = entry_grows h g i (upgrade_entry p.range) a.0 f

pub sizes_stay : (g : ℕ) (h : Window) (d : Deed) → (length (after h g d).states ≡ length h.states) × (length (after h g d).sides ≡ length h.sides)
sizes_stay g h (enter i) = (refl, length-set h.sides i (entered g (side h i)))
sizes_stay g h (leave i) = (refl, length-set h.sides i (left (side h i)))
sizes_stay g h (look r) = (refl, refl)
sizes_stay g h (take_free r) = (length-set h.states r (ranges.Moving g), refl)
sizes_stay g h (take_mapped r i c m) = (length-set h.states r (ranges.Moving g), length-set h.sides i (grown g (remove_entry r) (side h i)))
sizes_stay g h (set_map r t) = (refl, refl)
sizes_stay g h (settle_mapped r i c m) = (length-set h.states r (ranges.Mapped i c m), length-set h.sides i (grown g (place_entry c r m) (side h i)))
sizes_stay g h (settle_free r) = (length-set h.states r ranges.Free, refl)
sizes_stay g h (pin i c p) = (refl, refl)
sizes_stay g h (unpin r) = (refl, refl)
sizes_stay g h (upgrade i c p) = (length-set h.states p.range (ranges.Mapped i c modes.W), length-set h.sides i (grown g (upgrade_entry p.range) (side h i)))
