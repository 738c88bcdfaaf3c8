-- What is found in the window.
use Rattle.std.proofs.Common.{◌≡◌, ◌≢◌, ℕ, zero, suc, ◌<◌, ◌≤◌, List, [], ◌∷◌, length, take, get_or, Bool, true, false, cond, Option, Some, None, inl, inr, refl, subst, sym, ap, ◌∙◌, arith, eq-eqb, slice_get}
use Rattle.std.specs.Prelude.{is_some, MatchOption}
use Rattle.std.specs.List.{remove}
use Rattle.window_core.specs.declared.states.RangeState.TheVariants as ranges
use Rattle.page_map.specs.declared.pages.Mode.{Mode}
use Rattle.page_map.specs.declared.pages.Mode.TheVariants as modes
use Rattle.page_map.specs.declared.ranges.Placed.{Placed}
use Rattle.page_map.specs.declared.ranges.Target.{Target}
use Rattle.window_core.specs.declared.states.Pin.{Pin}
use Rattle.page_map.specs.Logs.{is_writable, placed_at, slot_in, slots_of, slots_from}
use Rattle.window_core.specs.Good.{IsGood, GoodWindow, MapsTo}
use Rattle.window_core.specs.Window.{on_range, pins_on, unpinned, Side, Window, no_side, state, side, Still, Treeless, Deed, take_mapped, Allowed, Did, DidTake, IsTake, IsThere, IsNowhere, IsUpgrade, IsUnsettled, MayRaise, MaySettle, settle_mapped, placed, HasTree, upgrade, target, target_of, pins}
use Rattle.window_core.proofs.Deeds.{one_on}
use Rattle.window_core.proofs.Places.{within}
use Rattle.window_core.proofs.Placing.{none_some, some_same, range_free}
use Rattle.window_core.proofs.Keeps.{side_inside, moving_inside, mapped_inside, same_mapped, moving_mapped}

pub none_had : (h : Window) (g n : ℕ) → length h.sides ≤ n → ((f : ℕ) → f < n → (side h f).holder ≢ Some g) → Treeless h g
none_had h g n all each f e = let l = side_inside h f g e in each f (omega arith) e

pub none_moved : (h : Window) (g n : ℕ) → length h.states ≤ n → ((r : ℕ) → r < n → state h r ≢ ranges.Moving g) → Still h g
none_moved h g n all each r e = let l = moving_inside h r g e in each r (omega arith) e

-- the first pin on the range, before which there is none
pub oldest : (r : ℕ) (ps : List Pin) (k : ℕ) (d : Pin) → k < length ps → (get_or ps k d).range ≡ r → pins_on r (take k ps) ≡ 0 → (0 < pins_on r ps) × (unpinned r ps ≡ remove ps k)
oldest r [] k d near on none = absurd (omega arith)
oldest r (x ∷ xs) zero d near on none = let here = eq-eqb x.range r on in let one = one_on r x xs in let yes : ◌≡◌ {A = ℕ} (cond (on_range r x) 1 0) 1 = ap (λ (b : Bool). cond b 1 0) here in (omega arith, ap (λ (b : Bool). cond b xs (x ∷ unpinned r xs)) here)
oldest r (x ∷ xs) (suc k) d near on none = let one = one_on r x xs in let front = one_on r x (take k xs) in let rest = oldest r xs k d (omega arith) on (omega arith) in let few = rest.0 in
    (omega arith, go (on_range r x) (omega arith) rest.1)
  where
    go : (b : Bool) → ◌≡◌ {A = ℕ} (cond b 1 0) 0 → unpinned r xs ≡ remove xs k → cond b xs (x ∷ unpinned r xs) ≡ remove (x ∷ xs) (suc k)
    go true f e = absurd (omega arith)
    go false f e = ap (λ (ys : List Pin). x ∷ ys) e

mapped_free : (f c : ℕ) (m : Mode) → ranges.Mapped f c m ≡ ranges.Free → ⊥
mapped_free f c m e = cc

-- a take of a range that is mapped
pub did_take : (h : Window) (g r f c : ℕ) (m : Mode) (b : Bool) (new : Window) → state h r ≡ ranges.Mapped f c m → DidTake b h g r f c new → Did b h g (IsTake r) new
did_take h g r f c m true new st did = (take_mapped r f c m, inr (f, c, m, refl), did.0 m st, did.1)
did_take h g r f c m false new st did = (none, did.1)
  where
    none : (d : Deed) → IsTake r d → Allowed h g d → ⊥
    none d (inl is) a = mapped_free f c m (sym st ∙ (subst (λ (x : Deed). Allowed h g x) is a).1)
    none d (inr x) a = let a' = subst (λ (y : Deed). Allowed h g y) x.3 a in let same = same_mapped x.0 x.1 f c x.2 m (sym a'.0 ∙ st) in did.0 x.2 (subst (λ (z : ℕ × ℕ). Allowed h g (take_mapped r z.0 z.1 x.2)) (λ i. (same.0 i, same.1 i)) a')

pub when_none : {A : Type 0} (o : Option A) (P : Type 0) (Q : A → Type 0) → is_some o ≡ false → MatchOption o P Q → P
when_none None P Q e m = m
when_none (Some x) P Q e m = absurd (cc)

pub far_nowhere : (h : Window) → IsGood h → (g r : ℕ) → length h.states ≤ r → IsNowhere h g r
far_nowhere h good g r far f c p there = let l = mapped_inside h p.range f c p.mode (good.2.placed_mapped f c p there.1) in let e = there.2 in absurd (omega arith)

pub no_log : (c : ℕ) → placed_at [] c ≡ None
unfolding placed_at slots_of slots_from
no_log c = refl

-- a range that is mapped has its chunk in a file's tree
pub mapped_near : (h : Window) → IsGood h → (r f c : ℕ) (m : Mode) → state h r ≡ ranges.Mapped f c m → f < length h.sides
mapped_near h good r f c m st = let q = good.2.mapped_placed r f c m st in within h.sides f no_side (λ e. none_some q.0 (sym (ap (λ (s : Side). placed_at s.log c) e ∙ no_log c) ∙ q.1))

pub there_inside : (h : Window) → IsGood h → (g r f c : ℕ) (p : Placed) → IsThere h g r f c p → r < length h.states
there_inside h good g r f c p there = let l = mapped_inside h p.range f c p.mode (good.2.placed_mapped f c p there.1) in let e = there.2 in omega arith

-- ---- upgrades

pub reads : (m : Mode) → m ≡ modes.R → is_writable m ≡ false
unfolding is_writable
reads modes.R e = refl
reads modes.W e = cc

reading : (m : Mode) → is_writable m ≡ false → m ≡ modes.R
unfolding is_writable
reading modes.R e = refl
reading modes.W e = cc

module _ (h : Window) (good : IsGood h) (g r f c : ℕ) (p : Placed) (there : IsThere h g r f c p) where
  state_there : state h r ≡ ranges.Mapped f c p.mode
  state_there = ap (λ (n : ℕ). state h n) (sym there.2) ∙ good.2.placed_mapped f c p there.1

  pub raise_needs : (d : Deed) → IsUpgrade r d → Allowed h g d → MayRaise h r p.mode
  raise_needs d is a = let f' = is.0 in let c' = is.1 in let p' = is.2 in let a' = subst (λ (x : Deed). Allowed h g x) is.4 a in
      let st' = ap (λ (n : ℕ). state h n) (sym is.3) ∙ good.2.placed_mapped f' c' p' a'.1 in
      let same = same_mapped f c f' c' p.mode p'.mode (sym state_there ∙ st') in
      (same.2 ∙ reading p'.mode a'.2, (target_of f' c' modes.W, ap (λ (n : ℕ). target h n) (sym is.3) ∙ a'.3, refl))

  pub raise_suffices : MayRaise h r p.mode → Allowed h g (upgrade f c p)
  raise_suffices may = let m = good.2.mapped_there r f c p.mode state_there in let same = some_same may.1.0 (target_of f c m.0) (sym may.1.1 ∙ m.1) in
      let w : m.0 ≡ modes.W = ap (λ (t : Target). t.mode) (sym same) ∙ may.1.2 in
      (there.0, there.1, reads p.mode may.0, ap (λ (n : ℕ). target h n) there.2 ∙ (m.1 ∙ ap (λ (x : Mode). Some (target_of f c x)) w))

-- ---- settling

module _ (h : Window) (good : IsGood h) (g r : ℕ) (moving : state h r ≡ ranges.Moving g) where
  its_range : (r' f c : ℕ) (m : Mode) → Allowed h g (settle_mapped r' f c m) → target h r ≡ Some (target_of f c m)
  its_range r' f c m a = ap (λ (n : ℕ). target h n) (good.2.one_moved r r' g moving a.0) ∙ a.1

  pub no_target : (c : ℕ) (m : Mode) → target h r ≡ None → IsUnsettled h g c m
  no_target c m none r' f a = none_some (target_of f c m) (sym none ∙ its_range r' f c m a)

  pub not_at : (c : ℕ) (m : Mode) (t : Target) → target h r ≡ Some t → (((t.chunk ≡ c) × (t.mode ≡ m)) → ⊥) → IsUnsettled h g c m
  not_at c m t is other r' f a = let same = some_same t (target_of f c m) (sym is ∙ its_range r' f c m a) in other (ap (λ (x : Target). x.chunk) same, ap (λ (x : Target). x.mode) same)

  pub may_not : (c : ℕ) (m : Mode) (t : Target) → target h r ≡ Some t → (MaySettle h g t → ⊥) → IsUnsettled h g c m
  may_not c m t is other r' f a = let same = some_same t (target_of f c m) (sym is ∙ its_range r' f c m a) in other (subst (λ (x : Target). MaySettle h g x) (sym same) (a.2, a.3))

  pub settles : (c : ℕ) (m : Mode) (t : Target) → target h r ≡ Some t → (t.chunk ≡ c) × (t.mode ≡ m) → MaySettle h g t → Allowed h g (settle_mapped r t.file c m)
  settles c m t is at may = (moving, is ∙ (λ i. Some (target_of t.file (at.0 i) (at.1 i))), may.0, ap (λ (n : ℕ). placed h t.file n) (sym at.0) ∙ may.1)

  -- no chunk is placed in a range that is moved
  pub moved_free : (f : ℕ) → HasTree h g f → slot_in (side h f).log r ≡ None
  moved_free f had = range_free (length h.states) (side h f).log r (good.2.sides_ok f (side_inside h f g had)).log_sound (λ c p e z. moving_mapped f c g p.mode (sym moving ∙ (ap (λ (n : ℕ). state h n) (sym z) ∙ good.2.placed_mapped f c p e)))

pub still_unsettled : (h : Window) (g c : ℕ) (m : Mode) → Still h g → IsUnsettled h g c m
still_unsettled h g c m still r f a = still r a.0

-- ---- pins

pub pin_holds : (guests g k : ℕ) (h : Window) (p : Pin) → GoodWindow guests h → slice_get (pins h g) k ≡ Some p → MapsTo h p.range p.file p.chunk p.mode
pin_holds guests g k h p good at = let ok = good.pins_ok g k p at in let m = good.mapped_there p.range p.file p.chunk ok.mode ok.state_is in (m.0, m.1, (λ w. m.2 (ok.enough w)))
