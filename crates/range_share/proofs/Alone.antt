-- Who may not move ranges moves none and has no pin, and where no other may, a guest has seen all of each log, whatever guests do.
use Rattle.std.proofs.Common.{◌≡◌, ◌≢◌, ◌⊎◌, ℕ, zero, suc, ◌+◌, ◌<◌, ◌≤◌, ◌==◌, ◌||◌, ◌&&◌, List, [], ◌∷◌, ◌++◌, length, set, get_or, false, not, true≢false, refl, sym, ap, ◌∙◌, subst, ⊎_elim, inl, inr, arith, length-append, length-set, get_or-set_other, ne_eqb}
use Rattle.seats.specs.Views.{guests}
use Rattle.page_map.specs.declared.pages.Mode.TheVariants as modes
use Rattle.page_map.specs.declared.ranges.LogEntry.{LogEntry}
use Rattle.range_tree.specs.Trees.{place_entry, upgrade_entry, remove_entry}
use Rattle.window_core.specs.declared.states.Pin.{Pin}
use Rattle.window_core.specs.declared.states.RangeState.{RangeState}
use Rattle.window_core.specs.declared.states.RangeState.TheVariants as states
use Rattle.window_core.specs.Window.{Side, Window, no_side, side, state, pins, seen_by, pins_on, unpinned, new_pin, HasTree, entered, left, grown, Deed, enter, leave, look, take_free, take_mapped, set_map, settle_mapped, settle_free, pin, unpin, upgrade, after}
use Rattle.window_core.proofs.Places.{at_put}
use Rattle.window_core.proofs.Keeps.{free_moving, moving_mapped, same_mover, mapped_inside, moving_inside, side_inside}
use Rattle.range_share.specs.Table.{Core, MayDo, GoodCore, others_may}

-- no other guest may move ranges where none may, or the guest alone
pub alone_is : (g movers : ℕ) → others_may g movers ≡ false → (movers ≡ 0) ⊎ ((movers ≡ 1) × (g ≡ 0))
alone_is g zero e = inl refl
alone_is zero (suc zero) e = inr (refl, refl)
alone_is (suc g) (suc zero) e = absurd (true≢false (sym (ap not (ne_eqb (suc g) 0 (λ z. omega arith))) ∙ e))
alone_is g (suc (suc m)) e = let a = ne_eqb (suc (suc m)) 0 (λ z. omega arith) in let b = ne_eqb (suc (suc m)) 1 (λ z. omega arith) in absurd (true≢false (sym (λ i. not (a i || (b i && (g == 0)))) ∙ e))

-- who has seen all of each log still has, where one file is another of which it has seen all
put_alone : (h : Window) (i : ℕ) (s : Side) (n : ℕ) → i < length h.sides → seen_by s n ≡ length s.log → ((f : ℕ) → f < length h.sides → seen_by (side h f) n ≡ length (side h f).log) → (f : ℕ) → f < length (set h.sides i s) → seen_by (get_or (set h.sides i s) f no_side) n ≡ length (get_or (set h.sides i s) f no_side).log
put_alone h i s n near now was f l = let m = length-set h.sides i s in ⊎_elim
    (λ a. subst (λ (x : Side). seen_by x n ≡ length x.log) (sym a.1) now)
    (λ a. subst (λ (x : Side). seen_by x n ≡ length x.log) (sym a.1) (was f (omega arith)))
    (at_put h.sides i f s no_side near)

module _ (c : Core) (g : ℕ) (l : g < guests) (good : GoodCore c) where
  abbrev h : Window
  h = c.window

  long_seen : (f : ℕ) → f < length h.sides → g < length (side h f).seen
  long_seen f near = let all = (good.window_good.sides_ok f near).seen_all in omega arith

  -- ---- states

  -- one range has another state, which isn't moved by who may not move ranges
  states_put : (r : ℕ) (x : RangeState) → r < length h.states → ((n : ℕ) → c.movers ≤ n → x ≢ states.Moving n) → (n a : ℕ) → c.movers ≤ n → get_or (set h.states r x) a states.Free ≢ states.Moving n
  states_put r x near off n a le e = ⊎_elim (λ z. off n le (sym z.1 ∙ e)) (λ z. good.moves_only n a le (sym z.1 ∙ e)) (at_put h.states r a x states.Free near)

  it_moves : g < c.movers → (n : ℕ) → c.movers ≤ n → states.Moving g ≢ states.Moving n
  it_moves may n le e = let same = same_mover g n e in omega arith

  pub moves_after : (d : Deed) → MayDo c g d → (n r : ℕ) → c.movers ≤ n → state (after h g d) r ≢ states.Moving n
  moves_after (enter f) ok = good.moves_only
  moves_after (leave f) ok = good.moves_only
  moves_after (look r) ok = good.moves_only
  moves_after (take_free r) ok = states_put r (states.Moving g) ok.allowed.0 (it_moves ok.mover)
  moves_after (take_mapped r f k m) ok = states_put r (states.Moving g) (mapped_inside h r f k m ok.allowed.0) (it_moves ok.mover)
  moves_after (set_map r t) ok = good.moves_only
  moves_after (settle_mapped r f k m) ok = states_put r (states.Mapped f k m) (moving_inside h r g ok.allowed.0) (λ n le e. moving_mapped f k n m (sym e))
  moves_after (settle_free r) ok = states_put r states.Free (moving_inside h r g ok.allowed) (λ n le e. free_moving n e)
  moves_after (pin f k p) ok = good.moves_only
  moves_after (unpin r) ok = good.moves_only
  moves_after (upgrade f k p) ok = states_put p.range (states.Mapped f k modes.W) (mapped_inside h p.range f k p.mode (good.window_good.placed_mapped f k p ok.allowed.1)) (λ n le e. moving_mapped f k n modes.W (sym e))

  -- ---- pins

  pins_put : (ps : List Pin) → (c.movers ≤ g → ⊥) → (n : ℕ) → c.movers ≤ n → get_or (set h.pins g ps) n [] ≡ []
  pins_put ps may n le = get_or-set_other h.pins g n ps [] (λ e. may (omega arith)) ∙ good.pins_only n le

  pub pins_after : (d : Deed) → MayDo c g d → (n : ℕ) → c.movers ≤ n → pins (after h g d) n ≡ []
  pins_after (enter f) ok = good.pins_only
  pins_after (leave f) ok = good.pins_only
  pins_after (look r) ok = good.pins_only
  pins_after (take_free r) ok = good.pins_only
  pins_after (take_mapped r f k m) ok = good.pins_only
  pins_after (set_map r t) ok = good.pins_only
  pins_after (settle_mapped r f k m) ok = good.pins_only
  pins_after (settle_free r) ok = good.pins_only
  pins_after (pin f k p) ok = pins_put (pins h g ++ new_pin (side h f) f k p ∷ []) (λ le. let may = ok.mover in omega arith)
  pins_after (unpin r) ok = pins_put (unpinned r (pins h g)) (λ le. let some = ok.allowed in let bare = ap (λ (ps : List Pin). pins_on r ps) (good.pins_only g le) in omega arith)
  pins_after (upgrade f k p) ok = good.pins_only

  -- ---- logs

  -- what the guest has seen once it has the tree, and once it added an entry
  seen_entered : (f n : ℕ) → f < length h.sides → seen_by (side h f) n ≡ length (side h f).log → seen_by (entered g (side h f)) n ≡ length (side h f).log
  seen_entered f n near was = ⊎_elim (λ a. a.1) (λ a. a.1 ∙ was) (at_put (side h f).seen g n (length (side h f).log) 0 (long_seen f near))

  seen_grown : (f n : ℕ) (e : LogEntry) → f < length h.sides → n ≡ g → seen_by (grown g e (side h f)) n ≡ length (grown g e (side h f)).log
  seen_grown f n e near is = ⊎_elim (λ a. a.1 ∙ sym (length-append (side h f).log (e ∷ []))) (λ a. absurd (a.0 is)) (at_put (side h f).seen g n (length (side h f).log + 1) 0 (long_seen f near))

  -- who may move ranges is the one who alone may
  it_is : (n : ℕ) → g < c.movers → others_may n c.movers ≡ false → n ≡ g
  it_is n may e = ⊎_elim (λ (z : c.movers ≡ 0). absurd (omega arith)) (λ (z : (c.movers ≡ 1) × (n ≡ 0)). let one = z.0 in let none = z.1 in omega arith) (alone_is n c.movers e)

  grown_alone : (i : ℕ) (e : LogEntry) → HasTree h g i → g < c.movers → (n f : ℕ) → n < guests → others_may n c.movers ≡ false → f < length (set h.sides i (grown g e (side h i))) → seen_by (get_or (set h.sides i (grown g e (side h i))) f no_side) n ≡ length (get_or (set h.sides i (grown g e (side h i))) f no_side).log
  grown_alone i e had may n f few off = let near = side_inside h i g had in put_alone h i (grown g e (side h i)) n near (seen_grown i n e near (it_is n may off)) (λ j. good.alone_seen n j few off) f

  pub alone_after : (d : Deed) → MayDo c g d → (n f : ℕ) → n < guests → others_may n c.movers ≡ false → f < length (after h g d).sides → seen_by (side (after h g d) f) n ≡ length (side (after h g d) f).log
  alone_after (enter i) ok = λ n f few off. put_alone h i (entered g (side h i)) n ok.allowed.0 (seen_entered i n ok.allowed.0 (good.alone_seen n i few off ok.allowed.0)) (λ j. good.alone_seen n j few off) f
  alone_after (leave i) ok = λ n f few off. let near = side_inside h i g ok.allowed in put_alone h i (left (side h i)) n near (good.alone_seen n i few off near) (λ j. good.alone_seen n j few off) f
  alone_after (look r) ok = good.alone_seen
  alone_after (take_free r) ok = good.alone_seen
  alone_after (take_mapped r i k m) ok = grown_alone i (remove_entry r) ok.allowed.2 ok.mover
  alone_after (set_map r t) ok = good.alone_seen
  alone_after (settle_mapped r i k m) ok = grown_alone i (place_entry k r m) ok.allowed.2 ok.mover
  alone_after (settle_free r) ok = good.alone_seen
  alone_after (pin i k p) ok = good.alone_seen
  alone_after (unpin r) ok = good.alone_seen
  alone_after (upgrade i k p) ok = grown_alone i (upgrade_entry p.range) ok.allowed.0 ok.mover
