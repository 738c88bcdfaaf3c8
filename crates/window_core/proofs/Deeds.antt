-- Each deed keeps the window good.
use Rattle.std.proofs.Common.{◌≡◌, ◌≢◌, ◌⊎◌, ℕ, zero, suc, ◌+◌, ◌<◌, ◌≤◌, List, [], ◌∷◌, ◌++◌, length, set, get_or, slice_get, Bool, true, false, cond, Option, Some, None, refl, sym, ap, ◌∙◌, subst, ⊎_elim, inl, inr, arith, length-append, length-set, eq-eqb, ne_eqb}
use mathlib.Core.Logic.{dite}
use native.Mathlib.Decide.{ℕ_discrete}
use Rattle.std.proofs.lemmas.List.Sums.{sum_by-set, sum_by-cons}
use Rattle.page_map.specs.declared.pages.Mode.{Mode}
use Rattle.page_map.specs.declared.pages.Mode.TheVariants as modes
use Rattle.page_map.specs.declared.ranges.Placed.{Placed}
use Rattle.page_map.specs.declared.ranges.Target.{Target}
use Rattle.page_map.specs.Logs.{live, sound, removes, placed_at}
use Rattle.range_tree.specs.Trees.{place_entry, upgrade_entry, remove_entry}
use Rattle.window_core.specs.declared.states.RangeState.TheVariants as ranges
use Rattle.window_core.specs.declared.states.Pin.{Pin}
use Rattle.window_core.specs.Window.{Window, state, side, pins, seen_by, placed, on_range, pins_on, pin_count, unpinned, Deed, enter, leave, look, take_free, take_mapped, set_map, settle_mapped, settle_free, pin, unpin, upgrade, IsTarget, InTree, HasTree, target_of, new_pin, Allowed, after}
use Rattle.window_core.specs.Good.{AtMost, PinOk, GoodWindow}
use Rattle.window_core.proofs.Places.{within, at_put, at_end}
use Rattle.window_core.proofs.Living.{lasts_live}
use Rattle.window_core.proofs.Placing.{some_same, none_some, slot_of_chunk, living_at, placed_new, placed_else, raised_here, raised_else, left_here, left_else, sound_left, sound_raised, range_free, sound_placed}
use Rattle.window_core.proofs.Keeps.{free_mapped, free_moving, moving_mapped, same_mover, same_mapped, mapped_inside, moving_inside, side_inside, grow_keeps, range_keeps, side_keeps, pins_keep, target_keeps}

-- ---- counts of pins

pub one_on : (r : ℕ) (x : Pin) (xs : List Pin) → pins_on r (x ∷ xs) ≡ pins_on r xs + cond (on_range r x) 1 0
one_on r x xs = let y = sum_by-cons (λ (y : Pin). cond (on_range r y) 1 0) x xs in omega arith

no_pin : (r : ℕ) (ps : List Pin) → pins_on r ps ≡ 0 → (k : ℕ) (p : Pin) → slice_get ps k ≡ Some p → p.range ≢ r
no_pin r [] z k p at e = absurd (cc)
no_pin r (x ∷ xs) z zero p at e = let one = one_on r x xs in let yes : ◌≡◌ {A = ℕ} (cond (on_range r x) 1 0) 1 = ap (λ (b : Bool). cond b 1 0) (eq-eqb x.range r (ap (λ (q : Pin). q.range) (some_same x p at) ∙ e)) in omega arith
no_pin r (x ∷ xs) z (suc k) p at e = let one = one_on r x xs in no_pin r xs (omega arith) k p at e

pub row_under : (h : Window) (r g : ℕ) → g < length h.pins → pins_on r (pins h g) ≤ pin_count h r
row_under h r g l = let s = sum_by-set (pins_on r) h.pins g [] [] l in let z : pins_on r [] ≡ 0 = refl in omega arith

nothing_at : (k : ℕ) (p : Pin) → slice_get [] k ≡ Some p → ⊥
nothing_at k p e = cc

unpinned_range : (h : Window) (r : ℕ) → pin_count h r ≡ 0 → (g k : ℕ) (p : Pin) → slice_get (pins h g) k ≡ Some p → p.range ≢ r
unpinned_range h r none_there g k p at = no_pin r (pins h g) (let l : g < length h.pins = within h.pins g [] (λ e. nothing_at k p (sym (ap (λ (ps : List Pin). slice_get ps k) e) ∙ at)) in let u = row_under h r g l in omega arith) k p at

left_one : (r : ℕ) (ps : List Pin) (k : ℕ) (p : Pin) → slice_get (unpinned r ps) k ≡ Some p → (i : ℕ) × (slice_get ps i ≡ Some p)
left_one r [] k p at = (k, at)
left_one r (x ∷ xs) k p at = go (on_range r x) k at (λ j a. left_one r xs j p a)
  where
    go : (b : Bool) (k : ℕ) → slice_get (cond b xs (x ∷ unpinned r xs)) k ≡ Some p → ((j : ℕ) → slice_get (unpinned r xs) j ≡ Some p → (i : ℕ) × (slice_get xs i ≡ Some p)) → (i : ℕ) × (slice_get (x ∷ xs) i ≡ Some p)
    go true k a rest = (suc k, a)
    go false zero a rest = (zero, a)
    go false (suc k) a rest = let i = rest k a in (suc i.0, i.1)

left_fewer : (r : ℕ) (ps : List Pin) → length (unpinned r ps) ≤ length ps
left_fewer r [] = omega arith
left_fewer r (x ∷ xs) = let h = left_fewer r xs in go (on_range r x) h
  where
    go : (b : Bool) → length (unpinned r xs) ≤ length xs → length (cond b xs (x ∷ unpinned r xs)) ≤ length (x ∷ xs)
    go true h = omega arith
    go false h = omega arith

-- ---- what an entry removes

removes_nothing : (c r s : ℕ) (m : Mode) → removes s (place_entry c r m) ≡ false
unfolding removes
removes_nothing c r s m = refl

raises_only : (r s : ℕ) → removes s (upgrade_entry r) ≡ false
unfolding removes
raises_only r s = refl

removes_other : (r s : ℕ) → s ≢ r → removes s (remove_entry r) ≡ false
unfolding removes
removes_other r s ne = ne_eqb r s (λ e. ne (sym e))

module _ (guests : ℕ) (h : Window) (g : ℕ) (l : g < guests) (good : GoodWindow guests h) where
  log_sound : (f : ℕ) → HasTree h g f → sound (length h.states) (side h f).log ≡ true
  log_sound f had = (good.sides_ok f (side_inside h f g had)).log_sound

  enter_keeps : (f : ℕ) → Allowed h g (enter f) → GoodWindow guests (after h g (enter f))
  enter_keeps f a = let s = side h f in let ok = good.sides_ok f a.0 in let n : ℕ = length s.log in let ns : List ℕ = set s.seen g n in let near : g < length s.seen = (let c = ok.seen_all in omega arith) in
      let now : (i : ℕ) → ((i ≡ g) × (get_or ns i 0 ≡ n)) ⊎ ((i ≢ g) × (get_or ns i 0 ≡ seen_by s i)) = λ i. at_put s.seen g i n 0 near in
      side_keeps guests h g l good f (Some g) ns a.0 record {
        log_sound = ok.log_sound;
        seen_all = length-set s.seen g n ∙ ok.seen_all;
        holder_small = λ i e. subst (λ (x : ℕ). x < guests) (some_same g i e) l;
        seen_within = λ i. let b = ok.seen_within i in ⊎_elim (λ z. let y = z.1 in omega arith) (λ z. let y = z.1 in omega arith) (now i);
        seen_whole = λ i t. ⊎_elim (λ z. z.1) (λ z. absurd (z.0 (sym (some_same g i t)))) (now i);
      }
      (λ i. let b = ok.seen_within i in ⊎_elim (λ z. let y = z.1 in omega arith) (λ z. let y = z.1 in omega arith) (now i))
      (λ i g' e t. absurd (a.2 i (t ∙ sym e)))

  leave_keeps : (f : ℕ) → Allowed h g (leave f) → GoodWindow guests (after h g (leave f))
  leave_keeps f a = let near = side_inside h f g a in let s = side h f in let ok = good.sides_ok f near in
      side_keeps guests h g l good f None s.seen near record { log_sound = ok.log_sound; seen_all = ok.seen_all; holder_small = λ i e. absurd (none_some i e); seen_within = ok.seen_within; seen_whole = λ i t. absurd (none_some i t) } (λ i. omega arith) (λ i g' e t. absurd (none_some g' e))

  take_free_keeps : (r : ℕ) → Allowed h g (take_free r) → GoodWindow guests (after h g (take_free r))
  take_free_keeps r a = let st = a.1 in range_keeps guests h g l good r (ranges.Moving g) a.0 (λ f c m e. free_mapped f c m (sym st ∙ e)) (λ f c m e. moving_mapped f c g m e)
      (λ g' r' e ne. subst (λ (n : ℕ). state h r' ≢ ranges.Moving n) (same_mover g g' e) (a.2 r')) (λ g' e. subst (λ (n : ℕ). n < guests) (same_mover g g' e) l)

  take_mapped_keeps : (r f c : ℕ) (m : Mode) → Allowed h g (take_mapped r f c m) → GoodWindow guests (after h g (take_mapped r f c m))
  take_mapped_keeps r f c m a = let st = a.0 in let old = good.mapped_placed r f c m st in let near = mapped_inside h r f c m st in let log = (side h f).log in let is = log_sound f a.2 in let p = old.0 in
      grow_keeps guests h g l good f r c (ranges.Moving g) None (remove_entry r) a.2 near
      (subst (λ (n : ℕ). sound (length h.states) (log ++ remove_entry n ∷ []) ≡ true) old.2 (sound_left (length h.states) log is c p old.1))
      (subst (λ (n : ℕ). placed_at (log ++ remove_entry n ∷ []) c ≡ None) old.2 (left_here (length h.states) log is c p old.1))
      (λ c' ne. subst (λ (n : ℕ). placed_at (log ++ remove_entry n ∷ []) c' ≡ placed h f c') old.2 (left_else (length h.states) log is c p old.1 c' ne))
      (λ q e. ap (λ (x : Placed). x.range) (some_same q p (sym e ∙ old.1)) ∙ old.2)
      (λ f' c' m' e. let z = same_mapped f' c' f c m' m (sym e ∙ st) in (z.0, z.1))
      (λ q e. absurd (none_some q e))
      (λ f' c' m' e. absurd (moving_mapped f' c' g m' e))
      (λ g' r' e ne. subst (λ (n : ℕ). state h r' ≢ ranges.Moving n) (same_mover g g' e) (a.3 r'))
      (λ g' e. subst (λ (n : ℕ). n < guests) (same_mover g g' e) l)
      (λ g' k q at. let far = unpinned_range h r a.1 g' k q at in (removes_other r q.range far, inl far))

  settle_mapped_keeps : (r f c : ℕ) (m : Mode) → Allowed h g (settle_mapped r f c m) → GoodWindow guests (after h g (settle_mapped r f c m))
  settle_mapped_keeps r f c m a = let st = a.0 in let near = moving_inside h r g st in let log = (side h f).log in let is = log_sound f a.2 in
      let t : IsTarget h (Some (target_of f c m)) = subst (λ (o : Option Target). IsTarget h o) a.1 (good.targets_known r) in
      let new : Placed = record { range = r; mode = m; entry = length log } in
      let unused : (c' : ℕ) (p : Placed) → placed h f c' ≡ Some p → p.range ≢ r = λ c' p e z. moving_mapped f c' g p.mode (sym st ∙ (ap (λ (n : ℕ). state h n) (sym z) ∙ good.placed_mapped f c' p e)) in
      grow_keeps guests h g l good f r c (ranges.Mapped f c m) (Some new) (place_entry c r m) a.2 near
      (sound_placed (length h.states) log c r m is t.1 near a.3 (range_free (length h.states) log r is unused))
      (placed_new log c r m a.3)
      (λ c' ne. placed_else log c r c' m ne)
      (λ p e. absurd (none_some p (sym a.3 ∙ e)))
      (λ f' c' m' e. absurd (moving_mapped f' c' g m' (sym st ∙ e)))
      (λ p e. let same = some_same new p e in (ap (λ (x : Placed). x.range) (sym same), ap (λ (x : Placed). ranges.Mapped f c x.mode) same))
      (λ f' c' m' e. let z = same_mapped f c f' c' m m' e in (sym z.0, sym z.1, (new, refl, refl, z.2), (m, a.1 ∙ (λ i. Some (target_of (z.0 i) (z.1 i) m)), λ y. z.2 ∙ y)))
      (λ g' r' e ne. absurd (moving_mapped f c g' m (sym e)))
      (λ g' e. absurd (moving_mapped f c g' m (sym e)))
      (λ g' k p at. let pk = good.pins_ok g' k p at in (removes_nothing c r p.range m, inl (λ e. moving_mapped p.file p.chunk g pk.mode (sym st ∙ (ap (λ (n : ℕ). state h n) (sym e) ∙ pk.state_is)))))

  settle_free_keeps : (r : ℕ) → Allowed h g (settle_free r) → GoodWindow guests (after h g (settle_free r))
  settle_free_keeps r a = range_keeps guests h g l good r ranges.Free (moving_inside h r g a) (λ f c m e. moving_mapped f c g m (sym a ∙ e)) free_mapped (λ g' r' e ne. absurd (free_moving g' e)) (λ g' e. absurd (free_moving g' e))

  upgrade_keeps : (f c : ℕ) (p : Placed) → Allowed h g (upgrade f c p) → GoodWindow guests (after h g (upgrade f c p))
  upgrade_keeps f c p a = let r = p.range in let st = good.placed_mapped f c p a.1 in let near = mapped_inside h r f c p.mode st in let log = (side h f).log in let is = log_sound f a.0 in
      let new : Placed = record p { mode = modes.W } in
      grow_keeps guests h g l good f r c (ranges.Mapped f c modes.W) (Some new) (upgrade_entry r) a.0 near
      (sound_raised (length h.states) log is c p a.1 a.2)
      (raised_here (length h.states) log is c p a.1)
      (raised_else (length h.states) log is c p a.1)
      (λ q e. ap (λ (x : Placed). x.range) (some_same q p (sym e ∙ a.1)))
      (λ f' c' m' e. let z = same_mapped f' c' f c m' p.mode (sym e ∙ st) in (z.0, z.1))
      (λ q e. let same = some_same new q e in (ap (λ (x : Placed). x.range) (sym same), ap (λ (x : Placed). ranges.Mapped f c x.mode) same))
      (λ f' c' m' e. let z = same_mapped f c f' c' modes.W m' e in (sym z.0, sym z.1, (new, refl, refl, z.2), (modes.W, a.3 ∙ (λ i. Some (target_of (z.0 i) (z.1 i) modes.W)), λ y. refl)))
      (λ g' r' e ne. absurd (moving_mapped f c g' modes.W (sym e)))
      (λ g' e. absurd (moving_mapped f c g' modes.W (sym e)))
      (λ g' k q at. let pk = good.pins_ok g' k q at in (
        raises_only r q.range,
        dite (ℕ_discrete q.range r)
            (λ z. let y = same_mapped f c q.file q.chunk p.mode pk.mode (sym st ∙ (ap (λ (n : ℕ). state h n) (sym z) ∙ pk.state_is)) in inr (modes.W, (λ i. ranges.Mapped (y.0 i) (y.1 i) modes.W), λ _. refl))
            (λ ne. inl ne),
      ))

  in_tree_fits : (r : ℕ) (t : Option Target) → InTree h g r t → (f c : ℕ) (m : Mode) → state h r ≡ ranges.Mapped f c m → (w : Mode) × (t ≡ Some (target_of f c w)) × AtMost m w
  in_tree_fits r None a f c m st = absurd a
  in_tree_fits r (Some t) a f c m st = let p = a.2.0 in let z = same_mapped t.file t.chunk f c p.mode m (sym (good.placed_mapped t.file t.chunk p a.2.1) ∙ (ap (λ (n : ℕ). state h n) a.2.2 ∙ st)) in (modes.W, (λ i. Some (target_of (z.0 i) (z.1 i) (a.1 i))), λ _. refl)

  set_map_keeps : (r : ℕ) (t : Option Target) → Allowed h g (set_map r t) → GoodWindow guests (after h g (set_map r t))
  set_map_keeps r t a = target_keeps guests h g l good r t a.0 a.1 (λ f c m st. ⊎_elim (λ y. absurd (moving_mapped f c g m (sym y ∙ st))) (λ y. in_tree_fits r t y f c m st) a.2)

  new_pin_ok : (f c : ℕ) (p : Placed) → HasTree h g f → placed h f c ≡ Some p → PinOk h g (new_pin (side h f) f c p)
  new_pin_ok f c p had here = let log = (side h f).log in let w = (good.sides_ok f (side_inside h f g had)).seen_whole g had in let s = slot_of_chunk log c p here in let living = living_at log c p s.0 s.1 in let lasts = living.lasts in
      let range : s.0.range ≡ p.range = ap (λ (x : Placed). x.range) s.1.is in let entry : s.0.entry ≡ p.entry = ap (λ (x : Placed). x.entry) s.1.is in record {
        mode = p.mode;
        state_is = good.placed_mapped f c p here;
        enough = λ e. e;
        upto_seen = omega arith;
        first = living.first;
        place = ap (λ (n : ℕ). slice_get log n) (sym entry) ∙ (lasts.place ∙ (λ i. Some (place_entry (s.1.chunk i) (range i) living.first)));
        lives = λ m lo hi. let same : length log ≡ m = omega arith in subst (λ (z : ℕ × ℕ). live log z.0 z.1 ≡ true) (λ i. (entry i, same i)) (lasts_live log s.0.entry (length log) s.0.chunk s.0.range living.first lasts);
      }

  pin_keeps : (f c : ℕ) (p : Placed) → Allowed h g (pin f c p) → GoodWindow guests (after h g (pin f c p))
  pin_keeps f c p a = let few = a.2 in let q = new_pin (side h f) f c p in pins_keep guests h g l good (pins h g ++ q ∷ [])
      (λ k x at. ⊎_elim (λ b. good.pins_ok g k x b) (λ b. subst (λ (y : Pin). PinOk h g y) b.1 (new_pin_ok f c p a.0 a.1)) (at_end (pins h g) q x k at)) (omega (arith, length-append (pins h g) (q ∷ [])))

  unpin_keeps : (r : ℕ) → Allowed h g (unpin r) → GoodWindow guests (after h g (unpin r))
  unpin_keeps r a = pins_keep guests h g l good (unpinned r (pins h g)) (λ k p at. let i = left_one r (pins h g) k p at in good.pins_ok g i.0 p i.1) (let a = left_fewer r (pins h g) in let b = good.pins_few g in omega arith)

  pub window_keeps : (d : Deed) → Allowed h g d → GoodWindow guests (after h g d)
  window_keeps (enter f) a = enter_keeps f a
  window_keeps (leave f) a = leave_keeps f a
  window_keeps (look r) a = good
  window_keeps (take_free r) a = take_free_keeps r a
  window_keeps (take_mapped r f c m) a = take_mapped_keeps r f c m a
  window_keeps (set_map r t) a = set_map_keeps r t a
  window_keeps (settle_mapped r f c m) a = settle_mapped_keeps r f c m a
  window_keeps (settle_free r) a = settle_free_keeps r a
  window_keeps (pin f c p) a = pin_keeps f c p a
  window_keeps (unpin r) a = unpin_keeps r a
  window_keeps (upgrade f c p) a = upgrade_keeps f c p a
