-- A window in which nothing was done yet is good.
use Rattle.std.proofs.Common.{◌≡◌, ℕ, zero, suc, ◌<◌, ◌≤◌, List, [], length, replicate, get_or, slice_get, true, Option, Some, None, refl, sym, ap, ◌∙◌, subst, arith}
use Rattle.std.proofs.lemmas.List.{length-replicate}
use Rattle.page_map.specs.declared.ranges.LogEntry.{LogEntry}
use Rattle.page_map.specs.declared.ranges.Target.{Target}
use Rattle.page_map.specs.Logs.{placed_at, sound, sound_from}
use Rattle.range_tree.specs.Trees.{max_ranges}
use Rattle.window_core.specs.declared.states.RangeState.TheVariants as ranges
use Rattle.window_core.specs.declared.states.Pin.{Pin}
use Rattle.window_core.specs.Window.{Side, no_side, seen_by, IsTarget, new_side, new_window}
use Rattle.window_core.specs.Good.{SideOk, GoodWindow}
use Rattle.window_core.proofs.Placing.{none_some}
use Rattle.window_core.proofs.Keeps.{free_mapped, free_moving}
use Rattle.window_core.proofs.Reading.{no_log}

get_replicate : {A : Type 0} (n i : ℕ) (x : A) → get_or (replicate n x) i x ≡ x
get_replicate zero i x = refl
get_replicate (suc n) zero x = refl
get_replicate (suc n) (suc i) x = get_replicate n i x

in_replicate : {A : Type 0} (n i : ℕ) (x d : A) → i < n → get_or (replicate n x) i d ≡ x
in_replicate zero i x d l = absurd (omega arith)
in_replicate (suc n) zero x d l = refl
in_replicate (suc n) (suc i) x d l = in_replicate n i x d (omega arith)

log_at_start : (files guests f : ℕ) → (get_or (replicate files (new_side guests)) f no_side).log ≡ []
log_at_start zero guests f = refl
log_at_start (suc files) guests zero = refl
log_at_start (suc files) guests (suc f) = log_at_start files guests f

holder_at_start : (files guests f : ℕ) → (get_or (replicate files (new_side guests)) f no_side).holder ≡ None
holder_at_start zero guests f = refl
holder_at_start (suc files) guests zero = refl
holder_at_start (suc files) guests (suc f) = holder_at_start files guests f

new_sound : (ranges : ℕ) → sound ranges [] ≡ true
unfolding sound sound_from
new_sound ranges = refl

new_side_ok : (guests ranges : ℕ) → SideOk guests ranges (new_side guests)
new_side_ok guests ranges = record {
  log_sound = new_sound ranges;
  seen_all = length-replicate guests 0;
  holder_small = λ g e. absurd (none_some g e);
  seen_within = λ g. let z : seen_by (new_side guests) g ≡ 0 = get_replicate guests g 0 in omega arith;
  seen_whole = λ g e. absurd (none_some g e);
}

no_pin_at : (k : ℕ) (p : Pin) → slice_get [] k ≡ Some p → ⊥
no_pin_at k p at = cc

pub window_start : (n files guests : ℕ) → n ≤ max_ranges → GoodWindow guests (new_window n files guests)
window_start n files guests few = let h = new_window n files guests in record {
  ranges_few = let l = length-replicate n ranges.Free in omega arith;
  targets_all = length-replicate n None ∙ sym (length-replicate n ranges.Free);
  pins_all = length-replicate guests [];
  sides_ok = λ f l. subst (λ (s : Side). SideOk guests (length h.states) s) (sym (in_replicate files f (new_side guests) no_side (let m = length-replicate files (new_side guests) in omega arith))) (new_side_ok guests (length h.states));
  mapped_placed = λ r f c m st. absurd (free_mapped f c m (sym (get_replicate n r ranges.Free) ∙ st));
  placed_mapped = λ f c p at. absurd (none_some p (sym (ap (λ (l : List LogEntry). placed_at l c) (log_at_start files guests f) ∙ no_log c) ∙ at));
  mapped_there = λ r f c m st. absurd (free_mapped f c m (sym (get_replicate n r ranges.Free) ∙ st));
  targets_known = λ r. subst (λ (o : Option Target). IsTarget h o) (sym (get_replicate n r None)) tt;
  pins_ok = λ g k p at. absurd (no_pin_at k p (subst (λ (ps : List Pin). slice_get ps k ≡ Some p) (get_replicate guests g []) at));
  pins_few = λ g. let e = ap (λ (ps : List Pin). length ps) (get_replicate guests g []) in omega arith;
  movers_small = λ r g st. absurd (free_moving g (sym (get_replicate n r ranges.Free) ∙ st));
  one_moved = λ r r' g st st'. absurd (free_moving g (sym (get_replicate n r ranges.Free) ∙ st));
  one_tree = λ f f' g t t'. absurd (none_some g (sym (holder_at_start files guests f) ∙ t));
}
