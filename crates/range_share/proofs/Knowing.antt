-- What a deed makes of what a pass is shown.
use Rattle.std.proofs.Common.{◌≡◌, ◌≢◌, ℕ, zero, suc, ◌+◌, ◌<◌, List, [], ◌∷◌, ◌++◌, map, length, take, drop, set, get_or, true, false, Bool, cond, Option, Some, None, refl, sym, ap, ◌∙◌, subst, ⊎_elim, arith, eq-eqb, length-append, length-set, get_or-set_same, get_or-set_other}
use lib.Seq.{map-set, map-set_same}
use Rattle.std.proofs.Math.Seq.{take-length}
use Rattle.std.proofs.lemmas.List.{take-append-drop}
use Rattle.seats.specs.Views.{guests}
use Rattle.page_map.specs.declared.pages.Mode.TheVariants as modes
use Rattle.page_map.specs.declared.ranges.LogEntry.{LogEntry}
use Rattle.page_map.specs.declared.ranges.Target.{Target}
use Rattle.range_tree.specs.Trees.{place_entry, upgrade_entry, remove_entry}
use Rattle.window_core.specs.declared.states.RangeState.{RangeState}
use Rattle.window_core.specs.declared.states.RangeState.TheVariants as ranges
use Rattle.window_core.specs.Window.{Side, Window, no_side, state, target, side, pins, seen_by, unpinned, new_pin, HasTree, InTree, grown, entered, left, Deed, enter, leave, look, take_free, take_mapped, set_map, settle_mapped, settle_free, pin, unpin, upgrade, after}
use Rattle.window_core.specs.Good.{SideOk}
use Rattle.window_core.specs.Shown.{Branch, is_guest, is_moving, branch, listed, holds, map_held}
use Rattle.window_core.proofs.Places.{at_put}
use Rattle.window_core.proofs.Keeps.{side_inside, mapped_inside}
use Rattle.range_share.specs.Table.{Core, GoodCore, MayDo, Mine, Noted, Knows, done, mine, branch_in, nobody}
use Rattle.range_share.specs.Steps.{DoesSo, IsShowing, branch_of}
use Rattle.range_share.specs.Known.{Effect, KeepsMaps, entered_branch, left_branch, grown_branch, with_branch, pin_of}
use Rattle.range_share.proofs.Laws.{window_laws}
use Rattle.range_share.proofs.Parts.{get_map, is_itself, length_listed, map_is, branch_is}

listed_same : {A : Type 0} (f g : ℕ → A) (n : ℕ) → ((i : ℕ) → f i ≡ g i) → listed f n ≡ listed g n
listed_same f g zero h = refl
listed_same f g (suc n) h = λ k. h 0 k ∷ listed_same (λ i. f (suc i)) (λ i. g (suc i)) n (λ i. h (suc i)) k

listed_set : {A : Type 0} (f g : ℕ → A) (n r : ℕ) (a : A) → f r ≡ a → ((i : ℕ) → i ≢ r → f i ≡ g i) → listed f n ≡ set (listed g n) r a
listed_set f g zero r a here rest = refl
listed_set f g (suc n) zero a here rest = λ k. here k ∷ listed_same (λ i. f (suc i)) (λ i. g (suc i)) n (λ i. rest (suc i) (λ e. omega arith)) k
listed_set f g (suc n) (suc r) a here rest = λ k. rest 0 (λ e. omega arith) k ∷ listed_set (λ i. f (suc i)) (λ i. g (suc i)) n r a here (λ i ne. rest (suc i) (λ e. ne (omega arith))) k

-- who is shown this core
abbrev viewer : ℕ → Core → Knows
viewer g c = record nobody { guest = g; mine = mine g c }

module _ (c : Core) (g : ℕ) (l : g < guests) (good : GoodCore c) where
  abbrev h : Window
  h = c.window

  abbrev m : Mine
  m = mine g c

  side_ok : (f : ℕ) → HasTree h g f → SideOk guests (length h.states) (side h f)
  side_ok f had = good.window_good.sides_ok f (side_inside h f g had)

  -- all of the log is seen while the tree is had
  whole : (f : ℕ) → HasTree h g f → (branch g (side h f)).seen ≡ (side h f).log
  whole f had = ap (λ n. take n (side h f).log) ((side_ok f had).seen_whole g had) ∙ take-length (side h f).log

  here : (f : ℕ) → branch_in m.shown.branches f ≡ branch g (side h f)
  here f = branch_is (viewer g c) c refl f

  -- where the targets are the same, what is shown of a held range stays
  kept : (c' : Core) → c'.window.targets ≡ h.targets → KeepsMaps m (mine g c')
  kept c' same r s t a b = sym (map_is (viewer g c') c' refl r t b) ∙ (ap (λ (ts : List (Option Target)). get_or ts r None) same ∙ map_is (viewer g c) c refl r s a)

  long : (c' : Core) → length c'.window.states ≡ length h.states → length (mine g c').shown.maps ≡ length m.shown.maps
  long c' n = length_listed (map_held g c'.window) (length c'.window.states) ∙ (n ∙ sym (length_listed (map_held g h) (length h.states)))

  sides_put : (f : ℕ) (s : Side) (b : Branch) → branch g s ≡ b → map (branch g) (set h.sides f s) ≡ with_branch m f b
  sides_put f s b e = map-set (branch g) h.sides f s ∙ ap (set (map (branch g) h.sides) f) e

  moved : (r : ℕ) (x : RangeState) (b : Bool) → is_moving g x ≡ b → map (is_moving g) (set h.states r x) ≡ set m.shown.moving r b
  moved r x b e = map-set (is_moving g) h.states r x ∙ ap (set (map (is_moving g) h.states) r) e

  grows : (f : ℕ) (e : LogEntry) → HasTree h g f → branch g (grown g e (side h f)) ≡ grown_branch e (branch_in m.shown.branches f)
  grows f e had = let s = side h f in let ok = side_ok f had in let n = ok.seen_all in
      let seen : take (get_or (set s.seen g (length s.log + 1)) g 0) (s.log ++ e ∷ []) ≡ s.log ++ e ∷ [] =
      ap (λ k. take k (s.log ++ e ∷ [])) (get_or-set_same s.seen g (length s.log + 1) 0 (omega arith) ∙ sym (length-append s.log (e ∷ []))) ∙ take-length (s.log ++ e ∷ []) in
      let w = whole f had in
      (λ i. record { had = is_guest g s.holder; seen = (seen ∙ ap (λ (x : List LogEntry). x ++ e ∷ []) (sym w)) i }) ∙ ap (grown_branch e) (sym (here f))

  -- ranges that are held as before
  same_maps : (h' : Window) → length h'.states ≡ length h.states → ((r : ℕ) → holds g h' (state h' r) ≡ holds g h (state h r)) → h'.targets ≡ h.targets → listed (map_held g h') (length h'.states) ≡ listed (map_held g h) (length h.states)
  same_maps h' n same there = ap (listed (map_held g h')) n ∙ listed_same (map_held g h') (map_held g h) (length h.states) (λ r. let t = ap (λ (ts : List (Option Target)). get_or ts r None) there in let e = same r in λ i. cond (e i) (Some (t i)) None)

  holds_by : (h' : Window) → ((f : ℕ) → is_guest g (side h' f).holder ≡ is_guest g (side h f).holder) → (x : RangeState) → holds g h' x ≡ holds g h x
  holds_by h' same ranges.Free = refl
  holds_by h' same (ranges.Moving a) = refl
  holds_by h' same (ranges.Mapped f k w) = same f

  in_tree : (r : ℕ) (t : Option Target) → InTree h g r t → holds g h (state h r) ≡ true
  in_tree r None x = absurd x
  in_tree r (Some t) x = let p = x.2.0 in ap (holds g h) (ap (state h) (sym x.2.2) ∙ good.window_good.placed_mapped t.file t.chunk p x.2.1) ∙ (ap (is_guest g) x.0 ∙ is_itself g)

  pub effect : (d : Deed) → MayDo c g d → Effect d (mine g c) (mine g (done c g d))
  effect (enter f) a = let may = a.allowed in let s = side h f in let c' = done c g (enter f) in let ok = good.window_good.sides_ok f may.0 in let n = ok.seen_all in
      let more = drop (seen_by s g) s.log in
      let seen : take (get_or (set s.seen g (length s.log)) g 0) s.log ≡ take (seen_by s g) s.log ++ more = ap (λ k. take k s.log) (get_or-set_same s.seen g (length s.log) 0 (omega arith)) ∙ (take-length s.log ∙ sym (take-append-drop (seen_by s g) s.log)) in
      let now : branch g (entered g s) ≡ entered_branch more (branch_in m.shown.branches f) = (λ i. record { had = is_itself g i; seen = seen i }) ∙ ap (entered_branch more) (sym (here f)) in (
        more,
        record {
          moving_is = refl;
          branches_are = sides_put f (entered g s) (entered_branch more (branch_in m.shown.branches f)) now;
          pins_are = refl;
          maps_long = long c' refl;
          movers_are = refl;
          maps_kept = kept c' refl;
        },
      )
  effect (leave f) a = let s = side h f in let c' = done c g (leave f) in record {
    moving_is = refl;
    branches_are = sides_put f (left s) (left_branch (branch_in m.shown.branches f)) (ap left_branch (sym (here f)));
    pins_are = refl;
    maps_long = long c' refl;
    movers_are = refl;
    maps_kept = kept c' refl;
  }
  effect (look r) a = refl
  effect (take_free r) a = let c' = done c g (take_free r) in record {
    moving_is = moved r (ranges.Moving g) true (eq-eqb g g refl);
    branches_are = refl;
    pins_are = refl;
    maps_long = long c' (length-set h.states r (ranges.Moving g));
    movers_are = refl;
    maps_kept = kept c' refl;
  }
  effect (take_mapped r f k w) a = let may = a.allowed in let c' = done c g (take_mapped r f k w) in let s = side h f in record {
    moving_is = moved r (ranges.Moving g) true (eq-eqb g g refl);
    branches_are = sides_put f (grown g (remove_entry r) s) (grown_branch (remove_entry r) (branch_in m.shown.branches f)) (grows f (remove_entry r) may.2);
    pins_are = refl;
    maps_long = long c' (length-set h.states r (ranges.Moving g));
    movers_are = refl;
    maps_kept = kept c' refl;
  }
  effect (set_map r t) a = let may = a.allowed in let h' = after h g (set_map r t) in let n = good.window_good.targets_all in let near = may.0 in
      let held : holds g h' (state h r) ≡ true = holds_by h' (λ f. refl) (state h r) ∙ ⊎_elim (λ st. ap (holds g h) st ∙ eq-eqb g g refl) (λ x. in_tree r t x) may.2 in
      let now : target h' r ≡ t = get_or-set_same h.targets r t None (omega arith) in
      let maps : listed (map_held g h') (length h.states) ≡ set (listed (map_held g h) (length h.states)) r (Some t) = listed_set (map_held g h') (map_held g h) (length h.states) r (Some t)
      (λ i. cond (held i) (Some (now i)) None)
      (λ j ne. let e = holds_by h' (λ f. refl) (state h j) in let o = get_or-set_other h.targets r j t None ne in λ i. cond (e i) (Some (o i)) None) in
      λ i. record m { shown = record m.shown { maps = maps i } }
  effect (settle_mapped r f k w) a = let may = a.allowed in let c' = done c g (settle_mapped r f k w) in let s = side h f in record {
    moving_is = moved r (ranges.Mapped f k w) false refl;
    branches_are = sides_put f (grown g (place_entry k r w) s) (grown_branch (place_entry k r w) (branch_in m.shown.branches f)) (grows f (place_entry k r w) may.2);
    pins_are = refl;
    maps_long = long c' (length-set h.states r (ranges.Mapped f k w));
    movers_are = refl;
    maps_kept = kept c' refl;
  }
  effect (settle_free r) a = let c' = done c g (settle_free r) in record {
    moving_is = moved r ranges.Free false refl;
    branches_are = refl;
    pins_are = refl;
    maps_long = long c' (length-set h.states r ranges.Free);
    movers_are = refl;
    maps_kept = kept c' refl;
  }
  effect (pin f k p) a = let may = a.allowed in let h' = after h g (pin f k p) in let n = good.window_good.pins_all in
      let upto : length (side h f).log ≡ length (branch_in m.shown.branches f).seen = ap length (sym (whole f may.0)) ∙ ap (λ (b : Branch). length b.seen) (sym (here f)) in
      let pins_now : pins h' g ≡ pins h g ++ pin_of m f k p ∷ [] = get_or-set_same h.pins g (pins h g ++ new_pin (side h f) f k p ∷ []) [] (omega arith)
      ∙ (λ i. pins h g ++ record { range = p.range; file = f; chunk = k; mode = p.mode; through = record { entry = p.entry; upto = upto i } } ∷ []) in
      let maps = same_maps h' refl (λ r. holds_by h' (λ f. refl) (state h r)) refl in
      λ i. record m { shown = record m.shown { pins = pins_now i; maps = maps i } }
  effect (unpin r) a = let h' = after h g (unpin r) in let n = good.window_good.pins_all in
      let pins_now : pins h' g ≡ unpinned r (pins h g) = get_or-set_same h.pins g (unpinned r (pins h g)) [] (omega arith) in
      let maps = same_maps h' refl (λ r. holds_by h' (λ f. refl) (state h r)) refl in
      λ i. record m { shown = record m.shown { pins = pins_now i; maps = maps i } }
  effect (upgrade f k p) a = let may = a.allowed in let h' = after h g (upgrade f k p) in let s = side h f in let e = upgrade_entry p.range in
      let st = good.window_good.placed_mapped f k p may.1 in let near = mapped_inside h p.range f k p.mode st in
      let moving = map-set_same (is_moving g) h.states p.range (ranges.Mapped f k modes.W) ranges.Free (sym (ap (is_moving g) st)) in
      let branches = sides_put f (grown g e s) (grown_branch e (branch_in m.shown.branches f)) (grows f e may.0) in
      let holder : (i : ℕ) → is_guest g (side h' i).holder ≡ is_guest g (side h i).holder = λ i. ⊎_elim (λ z. ap (λ (y : Side). is_guest g y.holder) z.1 ∙ ap (λ (j : ℕ). is_guest g (side h j).holder) (sym z.0)) (λ z. ap (λ (y : Side). is_guest g y.holder) z.1) (at_put h.sides f i (grown g e s) no_side (side_inside h f g may.0)) in
      let maps = same_maps h' (length-set h.states p.range (ranges.Mapped f k modes.W))
      (λ r. ⊎_elim
      (λ z. ap (holds g h') z.1 ∙ (holder f ∙ (ap (holds g h) (sym st) ∙ ap (λ (j : ℕ). holds g h (state h j)) (sym z.0))))
      (λ z. ap (holds g h') z.1 ∙ holds_by h' holder (state h r))
      (at_put h.states p.range r (ranges.Mapped f k modes.W) ranges.Free near)) refl in
      λ i. record m { shown = record m.shown { moving = moving i; branches = branches i; maps = maps i } }

-- ---- a pass

module _ (d : Deed) (x : Noted) (P : Core → Type 0) (v w : Knows) (t : DoesSo d x P v w) where
  pub guest_kept : w.guest ≡ v.guest
  guest_kept = ap (λ (u : Knows). u.guest) t.is

  pub live_kept : w.live ≡ v.live
  live_kept = ap (λ (u : Knows). u.live) t.is

  pub numbers_kept : w.numbers ≡ v.numbers
  numbers_kept = ap (λ (u : Knows). u.numbers) t.is

  pub noted_now : w.noted ≡ x
  noted_now = ap (λ (u : Knows). u.noted) t.is

  pub mine_now : w.mine ≡ mine v.guest (done t.core v.guest d)
  mine_now = ap (λ (u : Knows). u.mine) t.is

  pub effect_of : v.guest < guests → Effect d v.mine w.mine
  effect_of l = let a = t.part in let b = mine_now in subst (λ (z : Mine × Mine). Effect d z.0 z.1) (λ i. (sym a i, sym b i)) (effect t.core v.guest l t.good d t.allowed)

  -- a good core shows it what it is shown
  pub showing_now : v.guest < guests → IsShowing w
  showing_now l = let g = guest_kept in record {
    core = done t.core v.guest d;
    good = window_laws.keeps t.core v.guest d l t.good t.allowed;
    part = mine_now ∙ ap (λ (n : ℕ). mine n (done t.core v.guest d)) (sym g);
  }

-- ---- the numbers of ranges and files stay

pub same_moving : (d : Deed) (m n : Mine) → Effect d m n → length n.shown.moving ≡ length m.shown.moving
same_moving (enter f) m n x = ap length x.1.moving_is
same_moving (leave f) m n x = ap length x.moving_is
same_moving (look r) m n x = ap (λ (m : Mine). length m.shown.moving) x
same_moving (take_free r) m n x = ap length x.moving_is ∙ length-set m.shown.moving r true
same_moving (take_mapped r f c w) m n x = ap length x.moving_is ∙ length-set m.shown.moving r true
same_moving (set_map r t) m n x = ap (λ (m : Mine). length m.shown.moving) x
same_moving (settle_mapped r f c w) m n x = ap length x.moving_is ∙ length-set m.shown.moving r false
same_moving (settle_free r) m n x = ap length x.moving_is ∙ length-set m.shown.moving r false
same_moving (pin f c p) m n x = ap (λ (m : Mine). length m.shown.moving) x
same_moving (unpin r) m n x = ap (λ (m : Mine). length m.shown.moving) x
same_moving (upgrade f c p) m n x = ap (λ (m : Mine). length m.shown.moving) x

pub same_branches : (d : Deed) (m n : Mine) → Effect d m n → length n.shown.branches ≡ length m.shown.branches
same_branches (enter f) m n x = ap length x.1.branches_are ∙ length-set m.shown.branches f (entered_branch x.0 (branch_in m.shown.branches f))
same_branches (leave f) m n x = ap length x.branches_are ∙ length-set m.shown.branches f (left_branch (branch_in m.shown.branches f))
same_branches (look r) m n x = ap (λ (m : Mine). length m.shown.branches) x
same_branches (take_free r) m n x = ap length x.branches_are
same_branches (take_mapped r f c w) m n x = ap length x.branches_are ∙ length-set m.shown.branches f (grown_branch (remove_entry r) (branch_in m.shown.branches f))
same_branches (set_map r t) m n x = ap (λ (m : Mine). length m.shown.branches) x
same_branches (settle_mapped r f c w) m n x = ap length x.branches_are ∙ length-set m.shown.branches f (grown_branch (place_entry c r w) (branch_in m.shown.branches f))
same_branches (settle_free r) m n x = ap length x.branches_are
same_branches (pin f c p) m n x = ap (λ (m : Mine). length m.shown.branches) x
same_branches (unpin r) m n x = ap (λ (m : Mine). length m.shown.branches) x
same_branches (upgrade f c p) m n x = ap (λ (m : Mine). length m.shown.branches) x ∙ length-set m.shown.branches f (grown_branch (upgrade_entry p.range) (branch_in m.shown.branches f))

-- the log of the tree that was taken is seen
pub entered_log : (f : ℕ) (log : List LogEntry) (x : Noted) (v w : Knows) (t : DoesSo (enter f) x (λ c. log ≡ (side c.window f).log) v w) → v.guest < guests → (branch_of w f).seen ≡ log
entered_log f log x v w t l = let g = v.guest in let h = t.core.window in let s = side h f in let may = t.allowed.allowed in let n = (t.good.window_good.sides_ok f may.0).seen_all in
    let now : side (after h g (enter f)) f ≡ entered g s = get_or-set_same h.sides f (entered g s) no_side may.0 in
    ap (λ (m : Mine). (branch_in m.shown.branches f).seen) (mine_now (enter f) x (λ c. log ≡ (side c.window f).log) v w t)
    ∙ (ap (λ (b : Branch). b.seen) (get_map (branch g) (after h g (enter f)).sides f no_side ∙ ap (branch g) now)
    ∙ (ap (λ k. take k s.log) (get_or-set_same s.seen g (length s.log) 0 (omega arith)) ∙ (take-length s.log ∙ sym t.tells)))
