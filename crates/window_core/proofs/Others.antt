-- Whatever a guest does, each other is shown the same.
use Rattle.std.proofs.Common.{◌≡◌, ◌≢◌, ◌⊎◌, ℕ, zero, suc, ◌+◌, ◌<◌, ◌≤◌, ◌==◌, List, [], ◌∷◌, ◌++◌, map, take, length, set, get_or, Bool, false, cond, Option, Some, None, refl, sym, ap, ◌∙◌, ⊎_elim, inl, inr, arith, length-set, get_or-set_other, ne_eqb}
use lib.Seq.{map-set_same}
use Rattle.std.proofs.lemmas.List.{take-append-le}
use Rattle.page_map.specs.declared.pages.Mode.TheVariants as modes
use Rattle.page_map.specs.declared.ranges.LogEntry.{LogEntry}
use Rattle.page_map.specs.declared.ranges.Target.{Target}
use Rattle.range_tree.specs.Trees.{place_entry, upgrade_entry, remove_entry}
use Rattle.window_core.specs.declared.states.RangeState.{RangeState}
use Rattle.window_core.specs.declared.states.RangeState.TheVariants as ranges
use Rattle.window_core.specs.Window.{Side, Window, no_side, state, target, side, pins, seen_by, unpinned, new_pin, HasTree, InTree, grown, entered, left, with_entry, Deed, enter, leave, look, take_free, take_mapped, set_map, settle_mapped, settle_free, pin, unpin, upgrade, Allowed, after}
use Rattle.window_core.specs.Good.{GoodWindow}
use Rattle.window_core.specs.Shown.{is_guest, is_moving, branch, listed, holds, map_held, shown}
use Rattle.window_core.proofs.Places.{at_put}
use Rattle.window_core.proofs.Keeps.{side_inside, mapped_inside, moving_inside}

listed_same : {A : Type 0} (f g : ℕ → A) (n : ℕ) → ((i : ℕ) → i < n → f i ≡ g i) → listed f n ≡ listed g n
listed_same f g zero h = refl
listed_same f g (suc n) h = λ k. h 0 (omega arith) k ∷ listed_same (λ i. f (suc i)) (λ i. g (suc i)) n (λ i l. h (suc i) (omega arith)) k

module _ (guests : ℕ) (h : Window) (g o : ℕ) (ne : o ≢ g) (good : GoodWindow guests h) where
  -- the guest is not the other
  still : (g == o) ≡ false
  still = ne_eqb g o (λ e. ne (sym e))

  not_its : (t : Option ℕ) → t ≡ Some g → is_guest o t ≡ false
  not_its t e = ap (λ (x : Option ℕ). is_guest o x) e ∙ still

  nobodys : (t : Option ℕ) → t ≡ None → is_guest o t ≡ false
  nobodys t e = ap (λ (x : Option ℕ). is_guest o x) e

  -- a file of which the other has not the tree, before and after
  same_branch : (s s' : Side) → is_guest o s.holder ≡ false → is_guest o s'.holder ≡ false → take (seen_by s' o) s'.log ≡ take (seen_by s o) s.log → branch o s' ≡ branch o s
  same_branch s s' a b e = λ i. record { had = (b ∙ sym a) i; seen = e i }

  grown_branch : (e : LogEntry) (s : Side) → s.holder ≡ Some g → seen_by s o ≤ length s.log → branch o (grown g e s) ≡ branch o s
  grown_branch e s had small = same_branch s (grown g e s) (not_its s.holder had) (not_its s.holder had)
      (ap (λ (n : ℕ). take n (s.log ++ e ∷ [])) (get_or-set_other s.seen g o (length s.log + 1) 0 ne) ∙ take-append-le (seen_by s o) s.log (e ∷ []) small)

  states_same : (r : ℕ) (x : RangeState) → is_moving o x ≡ false → is_moving o (state h r) ≡ false → map (is_moving o) (set h.states r x) ≡ map (is_moving o) h.states
  states_same r x a b = map-set_same (is_moving o) h.states r x ranges.Free (a ∙ sym b)

  sides_same : (f : ℕ) (s : Side) → branch o s ≡ branch o (side h f) → map (branch o) (set h.sides f s) ≡ map (branch o) h.sides
  sides_same f s e = map-set_same (branch o) h.sides f s no_side e

  -- each range is held by the other in neither, or is as it was
  Alike : Window → ℕ → Type 0
  Alike h' r = ((holds o h (state h r) ≡ false) × (holds o h (state h' r) ≡ false)) ⊎ ((state h' r ≡ state h r) × (target h' r ≡ target h r))

  maps_same : (h' : Window) → length h'.states ≡ length h.states → ((f : ℕ) → is_guest o (side h' f).holder ≡ is_guest o (side h f).holder) → ((r : ℕ) → Alike h' r)
      → listed (map_held o h') (length h'.states) ≡ listed (map_held o h) (length h.states)
  unfolding Alike
  maps_same h' n same each = ap (listed (map_held o h')) n ∙ listed_same (map_held o h') (map_held o h) (length h.states) (λ r l. ⊎_elim
      (λ a. ap (λ (b : Bool). cond b (Some (target h' r)) None) (holds_same (state h' r) ∙ a.1) ∙ sym (ap (λ (b : Bool). cond b (Some (target h r)) None) a.0))
      (λ a. (λ i. cond (holds_same (a.0 i) i) (Some (a.1 i)) None)) (each r))
    where
      holds_same : (x : RangeState) → holds o h' x ≡ holds o h x
      holds_same ranges.Free = refl
      holds_same (ranges.Moving a) = refl
      holds_same (ranges.Mapped f c m) = same f

  of_state : (r : ℕ) (x : RangeState) → state h r ≡ x → is_moving o x ≡ false → is_moving o (state h r) ≡ false
  of_state r x e f = ap (λ (y : RangeState). is_moving o y) e ∙ f

  not_held : (r : ℕ) (x : RangeState) → state h r ≡ x → holds o h x ≡ false → holds o h (state h r) ≡ false
  not_held r x e f = ap (λ (y : RangeState). holds o h y) e ∙ f

  small_in : (f : ℕ) → HasTree h g f → seen_by (side h f) o ≤ length (side h f).log
  small_in f had = (good.sides_ok f (side_inside h f g had)).seen_within o

  -- one file's holder is another, neither of which is the other guest
  holders_put : (f : ℕ) (s : Side) → f < length h.sides → is_guest o s.holder ≡ is_guest o (side h f).holder → (i : ℕ) → is_guest o (get_or (set h.sides f s) i no_side).holder ≡ is_guest o (side h i).holder
  holders_put f s near same i = ⊎_elim (λ a. ap (λ (x : Side). is_guest o x.holder) a.1 ∙ (same ∙ ap (λ (n : ℕ). is_guest o (side h n).holder) (sym a.0))) (λ a. ap (λ (x : Side). is_guest o x.holder) a.1) (at_put h.sides f i s no_side near)

  -- one range has another state, and the other holds it in neither
  state_put : (h' : Window) (r : ℕ) (x : RangeState) → h'.states ≡ set h.states r x → h'.targets ≡ h.targets → r < length h.states → holds o h (state h r) ≡ false → holds o h x ≡ false → (a : ℕ) → Alike h' a
  unfolding Alike
  state_put h' r x is there near was now a = ⊎_elim
      (λ z. inl (ap (λ (n : ℕ). holds o h (state h n)) z.0 ∙ was, ap (λ (xs : List RangeState). holds o h (get_or xs a ranges.Free)) is ∙ (ap (λ (y : RangeState). holds o h y) z.1 ∙ now)))
      (λ z. inr (ap (λ (xs : List RangeState). get_or xs a ranges.Free) is ∙ z.1, ap (λ (ts : List (Option Target)). get_or ts a None) there)) (at_put h.states r a x ranges.Free near)

  same_ranges : (h' : Window) → h'.states ≡ h.states → h'.targets ≡ h.targets → (a : ℕ) → Alike h' a
  unfolding Alike
  same_ranges h' is there a = inr (ap (λ (xs : List RangeState). get_or xs a ranges.Free) is, ap (λ (ts : List (Option Target)). get_or ts a None) there)

  target_put : (r : ℕ) (t : Option Target) → r < length h.targets → holds o h (state h r) ≡ false → (a : ℕ) → Alike (record h { targets = set h.targets r t }) a
  unfolding Alike
  target_put r t near was a = ⊎_elim (λ z. let x = ap (λ (n : ℕ). holds o h (state h n)) z.0 ∙ was in inl (x, x)) (λ z. inr (refl, z.1)) (at_put h.targets r a t None near)

  -- the three deeds that add to a log
  grows : (f r : ℕ) (x : RangeState) (e : LogEntry) → HasTree h g f → r < length h.states → is_moving o (state h r) ≡ false → is_moving o x ≡ false → holds o h (state h r) ≡ false → holds o h x ≡ false
      → shown o (with_entry g f r x e h) ≡ shown o h
  grows f r x e had near a b a' b' = let s = side h f in let s' = grown g e s in let h' = with_entry g f r x e h in let same = grown_branch e s had (small_in f had) in
      let maps = maps_same h' (length-set h.states r x) (holders_put f s' (side_inside h f g had) refl) (state_put h' r x refl refl near a' b') in
      let moving = states_same r x b a in let branches = sides_same f s' same in
      λ i. record { moving = moving i; branches = branches i; pins = pins h o; maps = maps i }

  in_tree : (r : ℕ) (t : Option Target) → InTree h g r t → holds o h (state h r) ≡ false
  in_tree r None x = absurd x
  in_tree r (Some t) x = let p = x.2.0 in not_held r (ranges.Mapped t.file t.chunk p.mode) (ap (λ (n : ℕ). state h n) (sym x.2.2) ∙ good.placed_mapped t.file t.chunk p x.2.1) (not_its (side h t.file).holder x.0)

  pub others_see : (d : Deed) → Allowed h g d → shown o (after h g d) ≡ shown o h
  others_see (enter f) a = let s = side h f in let s' = entered g s in let before = nobodys s.holder a.1 in
      let same = same_branch s s' before still (ap (λ (n : ℕ). take n s.log) (get_or-set_other s.seen g o (length s.log) 0 ne)) in
      let maps = maps_same (after h g (enter f)) refl (holders_put f s' a.0 (still ∙ sym before)) (same_ranges (after h g (enter f)) refl refl) in let branches = sides_same f s' same in
      λ i. record (shown o h) { branches = branches i; maps = maps i }
  others_see (leave f) a = let s = side h f in let s' = left s in let before = not_its s.holder a in let same = same_branch s s' before refl refl in
      let maps = maps_same (after h g (leave f)) refl (holders_put f s' (side_inside h f g a) (sym before)) (same_ranges (after h g (leave f)) refl refl) in let branches = sides_same f s' same in
      λ i. record (shown o h) { branches = branches i; maps = maps i }
  others_see (look r) a = refl
  others_see (take_free r) a = let h' = after h g (take_free r) in let maps = maps_same h' (length-set h.states r (ranges.Moving g)) (λ f. refl) (state_put h' r (ranges.Moving g) refl refl a.0 (not_held r ranges.Free a.1 refl) still) in
      let moving = states_same r (ranges.Moving g) still (of_state r ranges.Free a.1 refl) in λ i. record (shown o h) { moving = moving i; maps = maps i }
  others_see (take_mapped r f c m) a = grows f r (ranges.Moving g) (remove_entry r) a.2 (mapped_inside h r f c m a.0) (of_state r (ranges.Mapped f c m) a.0 refl) still (not_held r (ranges.Mapped f c m) a.0 (not_its (side h f).holder a.2)) still
  others_see (set_map r t) a = let near : r < length h.targets = (let n = good.targets_all in let l = a.0 in omega arith) in
      let away : holds o h (state h r) ≡ false = ⊎_elim (λ st. not_held r (ranges.Moving g) st still) (λ x. in_tree r t x) a.2 in
      let maps = maps_same (after h g (set_map r t)) refl (λ f. refl) (target_put r t near away) in λ i. record (shown o h) { maps = maps i }
  others_see (settle_mapped r f c m) a = grows f r (ranges.Mapped f c m) (place_entry c r m) a.2 (moving_inside h r g a.0) (of_state r (ranges.Moving g) a.0 still) refl (not_held r (ranges.Moving g) a.0 still) (not_its (side h f).holder a.2)
  others_see (settle_free r) a = let h' = after h g (settle_free r) in let maps = maps_same h' (length-set h.states r ranges.Free) (λ f. refl) (state_put h' r ranges.Free refl refl (moving_inside h r g a) (not_held r (ranges.Moving g) a still) refl) in
      let moving = states_same r ranges.Free refl (of_state r (ranges.Moving g) a still) in λ i. record (shown o h) { moving = moving i; maps = maps i }
  others_see (pin f c p) a = let e = get_or-set_other h.pins g o (pins h g ++ new_pin (side h f) f c p ∷ []) [] ne in λ i. record (shown o h) { pins = e i }
  others_see (unpin r) a = let e = get_or-set_other h.pins g o (unpinned r (pins h g)) [] ne in λ i. record (shown o h) { pins = e i }
  others_see (upgrade f c p) a = let st = good.placed_mapped f c p a.1 in
      grows f p.range (ranges.Mapped f c modes.W) (upgrade_entry p.range) a.0 (mapped_inside h p.range f c p.mode st) (of_state p.range (ranges.Mapped f c p.mode) st refl) refl (not_held p.range (ranges.Mapped f c p.mode) st (not_its (side h f).holder a.0)) (not_its (side h f).holder a.0)
