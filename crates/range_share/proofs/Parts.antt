-- What a pass knows of the core, by what it is shown.
use Rattle.std.proofs.Common.{◌≡◌, ◌≢◌, ℕ, zero, suc, ◌*◌, ◌<◌, ◌≤◌, List, [], ◌∷◌, map, length, take, get_or, slice_get, Bool, true, false, true≢false, cond, Option, Some, None, refl, sym, ap, ◌∙◌, arith, eq-eqb}
use lib.ListN.{length-map}
use Rattle.std.specs.List.{sum_by}
use Rattle.std.proofs.lemmas.Bool.{eqb-true}
use Rattle.std.proofs.lemmas.List.Sums.{sum_by-cons, count_by-le-length}
use Rattle.std.proofs.Math.Seq.{take-length}
use Rattle.seats.specs.Views.{guests}
use Rattle.page_map.specs.declared.pages.Mode.{Mode}
use Rattle.page_map.specs.declared.ranges.LogEntry.{LogEntry}
use Rattle.page_map.specs.declared.ranges.Placed.{Placed}
use Rattle.page_map.specs.declared.ranges.Target.{Target}
use Rattle.page_map.specs.Logs.{placed_at}
use Rattle.page_map.specs.Window.{max_chunks}
use Rattle.window_core.specs.declared.states.Pin.{Pin}
use Rattle.window_core.specs.declared.states.RangeState.{RangeState}
use Rattle.window_core.specs.declared.states.RangeState.TheVariants as ranges
use Rattle.window_core.specs.Window.{Window, no_side, state, target, side, pins, seen_by, placed, on_range, pins_on, pin_count, HasTree, Still, Treeless as TreelessIn, IsTarget, word_of, word_at}
use Rattle.window_core.specs.Good.{GoodWindow}
use Rattle.window_core.specs.Shown.{Branch, is_guest, is_moving, branch, listed, holds, map_held}
use Rattle.window_core.proofs.Places.{within}
use Rattle.window_core.proofs.Keeps.{side_inside}
use Rattle.window_core.proofs.Deeds.{one_on}
use Rattle.range_share.specs.Packed.{WordFits, TargetFits}
use Rattle.range_share.specs.Table.{Core, Mine, Knows, GoodCore, mine, branch_in, moves_in}
use Rattle.range_share.specs.Steps.{branch_of, moves_at, map_shown, HasIn, Treeless, AtRest, ranges_of, files_of}

pub get_map : {A B : Type 0} (F : A → B) (l : List A) (i : ℕ) (d : A) → get_or (map F l) i (F d) ≡ F (get_or l i d)
get_map F [] i d = refl
get_map F (x ∷ xs) zero d = refl
get_map F (x ∷ xs) (suc i) d = get_map F xs i d

pub is_its : (g : ℕ) (o : Option ℕ) → is_guest g o ≡ true → o ≡ Some g
is_its g None e = absurd (true≢false (sym e))
is_its g (Some h) e = ap (λ n. Some n) (eqb-true h g e)

pub is_itself : (g : ℕ) → is_guest g (Some g) ≡ true
is_itself g = eq-eqb g g refl

pub is_not : (g : ℕ) (o : Option ℕ) → is_guest g o ≡ false → o ≢ Some g
is_not g o off is = true≢false (sym (ap (is_guest g) is ∙ is_itself g) ∙ off)

pub is_mover : (g : ℕ) (x : RangeState) → is_moving g x ≡ true → x ≡ ranges.Moving g
is_mover g ranges.Free e = absurd (true≢false (sym e))
is_mover g (ranges.Moving h) e = ap (λ n. ranges.Moving n) (eqb-true h g e)
is_mover g (ranges.Mapped f c m) e = absurd (true≢false (sym e))

pub at_listed : {A : Type 0} (f : ℕ → A) (n i : ℕ) (d : A) → i < n → get_or (listed f n) i d ≡ f i
at_listed f zero i d l = absurd (omega arith)
at_listed f (suc n) zero d l = refl
at_listed f (suc n) (suc i) d l = at_listed (λ j. f (suc j)) n i d (omega arith)

pub length_listed : {A : Type 0} (f : ℕ → A) (n : ℕ) → length (listed f n) ≡ n
length_listed f zero = refl
length_listed f (suc n) = ap suc (length_listed (λ i. f (suc i)) n)

held_map : (b : Bool) (s t : Option Target) → cond b (Some s) None ≡ Some t → (b ≡ true) × (s ≡ t)
held_map true s t e = (refl, cc)
held_map false s t e = absurd (cc)

none_shown : (t : Option Target) → None ≡ Some t → ⊥
none_shown t e = cc

-- ---- what a pass is shown

module _ (v : Knows) (c : Core) (is : v.mine ≡ mine v.guest c) where
  pub branch_is : (f : ℕ) → branch_of v f ≡ branch v.guest (side c.window f)
  branch_is f = ap (λ (m : Mine). branch_in m.shown.branches f) is ∙ get_map (branch v.guest) c.window.sides f no_side

  pub moving_is : (r : ℕ) → moves_at v r ≡ is_moving v.guest (state c.window r)
  moving_is r = ap (λ (m : Mine). moves_in m.shown.moving r) is ∙ get_map (is_moving v.guest) c.window.states r ranges.Free

  pub pins_are : v.mine.shown.pins ≡ pins c.window v.guest
  pins_are = ap (λ (m : Mine). m.shown.pins) is

  pub pins_on_are : (r : ℕ) → pins_on r v.mine.shown.pins ≡ pins_on r (pins c.window v.guest)
  pins_on_are r = ap (pins_on r) pins_are

  pub movers_are : v.mine.movers ≡ c.movers
  movers_are = ap (λ (m : Mine). m.movers) is

  pub ranges_are : ranges_of v ≡ length c.window.states
  ranges_are = ap (λ (m : Mine). length m.shown.moving) is ∙ length-map c.window.states (is_moving v.guest)

  pub files_are : files_of v ≡ length c.window.sides
  files_are = ap (λ (m : Mine). length m.shown.branches) is ∙ length-map c.window.sides (branch v.guest)

  pub range_there : (r : ℕ) → r < ranges_of v → r < length c.window.states
  range_there r l = let n = ranges_are in omega arith

  -- ---- trees

  pub had_is : (f : ℕ) → (branch_of v f).had ≡ is_guest v.guest (side c.window f).holder
  had_is f = ap (λ (b : Branch). b.had) (branch_is f)

  pub seen_part : (f : ℕ) → (branch_of v f).seen ≡ take (seen_by (side c.window f) v.guest) (side c.window f).log
  seen_part f = ap (λ (b : Branch). b.seen) (branch_is f)

  pub holder_is : (f : ℕ) → (branch_of v f).had ≡ true → HasTree c.window v.guest f
  holder_is f t = is_its v.guest (side c.window f).holder (sym (had_is f) ∙ t)

  pub holder_shown : (f : ℕ) → HasTree c.window v.guest f → (branch_of v f).had ≡ true
  holder_shown f e = had_is f ∙ (ap (is_guest v.guest) e ∙ is_itself v.guest)

  pub side_there : (f : ℕ) → (branch_of v f).had ≡ true → f < length c.window.sides
  side_there f t = side_inside c.window f v.guest (holder_is f t)

  pub treeless : Treeless v → TreelessIn c.window v.guest
  treeless bare f e = true≢false (sym (holder_shown f e) ∙ bare f)

  -- all of the log is seen while the tree is had
  pub seen_is : GoodWindow guests c.window → (f : ℕ) → (branch_of v f).had ≡ true → (branch_of v f).seen ≡ (side c.window f).log
  seen_is good f t = seen_part f
      ∙ (ap (λ n. take n (side c.window f).log) ((good.sides_ok f (side_there f t)).seen_whole v.guest (holder_is f t)) ∙ take-length (side c.window f).log)

  -- what the tree that is had has
  pub has_is : GoodWindow guests c.window → (f k : ℕ) (p : Placed) → HasIn v.mine f k p → HasTree c.window v.guest f × (placed c.window f k ≡ Some p)
  has_is good f k p has = (holder_is f has.had, ap (λ (l : List LogEntry). placed_at l k) (sym (seen_is good f has.had)) ∙ has.placed)

  pub has_shown : GoodWindow guests c.window → (f k : ℕ) (p : Placed) → HasTree c.window v.guest f → placed c.window f k ≡ Some p → HasIn v.mine f k p
  has_shown good f k p e at = let had = holder_shown f e in record { had = had; placed = ap (λ (l : List LogEntry). placed_at l k) (seen_is good f had) ∙ at }

  -- ---- moved ranges

  pub moves_is : (r : ℕ) → moves_at v r ≡ true → state c.window r ≡ ranges.Moving v.guest
  moves_is r t = is_mover v.guest (state c.window r) (sym (moving_is r) ∙ t)

  pub moves_shown : (r : ℕ) → state c.window r ≡ ranges.Moving v.guest → moves_at v r ≡ true
  moves_shown r e = moving_is r ∙ (ap (is_moving v.guest) e ∙ eq-eqb v.guest v.guest refl)

  pub still_is : AtRest v → Still c.window v.guest
  still_is bare r e = true≢false (sym (moves_shown r e) ∙ bare r)

  -- ---- maps

  maps_are : (r : ℕ) → map_shown v.mine r ≡ get_or (listed (map_held v.guest c.window) (length c.window.states)) r None
  maps_are r = ap (λ (m : Mine). map_shown m r) is

  -- a map that is shown is the range's, which the guest holds
  pub map_held_is : (r : ℕ) (t : Option Target) → map_shown v.mine r ≡ Some t → (holds v.guest c.window (state c.window r) ≡ true) × (target c.window r ≡ t)
  map_held_is r t e =
      let n = length_listed (map_held v.guest c.window) (length c.window.states) in
      let l : r < length (listed (map_held v.guest c.window) (length c.window.states)) = within (listed (map_held v.guest c.window) (length c.window.states)) r None (λ x. none_shown t (sym (maps_are r ∙ x) ∙ e)) in
      held_map (holds v.guest c.window (state c.window r)) (target c.window r) t (sym (at_listed (map_held v.guest c.window) (length c.window.states) r None (omega arith)) ∙ (sym (maps_are r) ∙ e))

  pub map_is : (r : ℕ) (t : Option Target) → map_shown v.mine r ≡ Some t → target c.window r ≡ t
  map_is r t e = (map_held_is r t e).1

  -- the map of a range that the guest holds is shown
  pub map_seen : (r : ℕ) → r < length c.window.states → holds v.guest c.window (state c.window r) ≡ true → map_shown v.mine r ≡ Some (target c.window r)
  map_seen r l t = maps_are r ∙ (at_listed (map_held v.guest c.window) (length c.window.states) r None l ∙ ap (λ b. cond b (Some (target c.window r)) None) t)

-- ---- what words and maps of a good core may be

sum_small : (r : ℕ) (rows : List (List Pin)) → ((g : ℕ) → length (get_or rows g []) ≤ 64) → sum_by (pins_on r) rows ≤ 64 * length rows
sum_small r [] few = omega arith
sum_small r (ps ∷ rows) few = let h = sum_small r rows (λ g. few (suc g)) in let a = few 0 in let b = count_by-le-length (on_range r) ps in let c = sum_by-cons (pins_on r) ps rows in omega arith

no_pins : (r : ℕ) (ps : List Pin) → ((k : ℕ) (p : Pin) → slice_get ps k ≡ Some p → p.range ≢ r) → pins_on r ps ≡ 0
no_pins r [] h = refl
no_pins r (q ∷ ps) h = let c = one_on r q ps in let t = no_pins r ps (λ k p at. h (suc k) p at) in let z = go (on_range r q) (λ e. h 0 q refl (eqb-true q.range r e)) in omega arith
  where
    go : (b : Bool) → (b ≡ true → ⊥) → ◌≡◌ {A = ℕ} (cond b 1 0) 0
    go true off = absurd (off refl)
    go false off = refl

sum_none : (r : ℕ) (rows : List (List Pin)) → ((g k : ℕ) (p : Pin) → slice_get (get_or rows g []) k ≡ Some p → p.range ≢ r) → sum_by (pins_on r) rows ≡ 0
sum_none r [] h = refl
sum_none r (ps ∷ rows) h = let rest = sum_none r rows (λ g. h (suc g)) in let a = no_pins r ps (h 0) in let c = sum_by-cons (pins_on r) ps rows in omega arith

module _ (h : Window) (good : GoodWindow guests h) where
  -- 34 guests with 64 pins each
  pub count_small : (r : ℕ) → pin_count h r ≤ 2176
  count_small r = let s = sum_small r h.pins good.pins_few in let n = good.pins_all in omega arith

  -- a range that isn't mapped has no pins
  pub unmapped_count : (r : ℕ) → ((f c : ℕ) (m : Mode) → state h r ≢ ranges.Mapped f c m) → pin_count h r ≡ 0
  unmapped_count r off = sum_none r h.pins (λ g k p at e. let ok = good.pins_ok g k p at in off p.file p.chunk ok.mode (ap (state h) (sym e) ∙ ok.state_is))

  pub moving_count : (r g : ℕ) → state h r ≡ ranges.Moving g → pin_count h r ≡ 0
  moving_count r g st = unmapped_count r (λ f c m e. clash f c m (sym st ∙ e))
    where
      clash : (f c : ℕ) (m : Mode) → ranges.Moving g ≡ ranges.Mapped f c m → ⊥
      clash f c m e = cc

  pub free_count : (r : ℕ) → state h r ≡ ranges.Free → pin_count h r ≡ 0
  free_count r st = unmapped_count r (λ f c m e. clash f c m (sym st ∙ e))
    where
      clash : (f c : ℕ) (m : Mode) → ranges.Free ≡ ranges.Mapped f c m → ⊥
      clash f c m e = cc

  -- a mapped range has a file that there is, and a chunk that a file may have
  pub mapped_names : (r f c : ℕ) (m : Mode) → state h r ≡ ranges.Mapped f c m → (f < length h.sides) × (c < max_chunks)
  mapped_names r f c m st = let t = good.mapped_there r f c m st in go (target h r) t.1 (good.targets_known r)
    where
      go : (o : Option Target) → o ≡ Some (record { file = f; chunk = c; mode = (good.mapped_there r f c m st).0 }) → IsTarget h o → (f < length h.sides) × (c < max_chunks)
      go None e k = absurd (cc)
      go (Some t) e k = let a : t.file ≡ f = cc in let b : t.chunk ≡ c = cc in let x = k.0 in let y = k.1 in (omega arith, omega arith)

  pub placed_there : (f c : ℕ) (p : Placed) → placed h f c ≡ Some p → (f < length h.sides) × (c < max_chunks)
  placed_there f c p at = mapped_names p.range f c p.mode (good.placed_mapped f c p at)

module _ (c : Core) (good : GoodCore c) where
  pub mapped_small : (r f k : ℕ) (m : Mode) → state c.window r ≡ ranges.Mapped f k m → (f < 64) × (k < max_chunks)
  mapped_small r f k m st = let s = mapped_names c.window good.window_good r f k m st in let a = s.0 in let n = good.files_few in (omega arith, s.1)

  pub word_fits : (r : ℕ) → WordFits (word_at c.window r)
  word_fits r = go (state c.window r) refl
    where
      go : (x : RangeState) → state c.window r ≡ x → WordFits (word_of x (pin_count c.window r))
      go ranges.Free e = tt
      go (ranges.Moving g) e = good.window_good.movers_small r g e
      go (ranges.Mapped f k m) e = let s = mapped_small r f k m e in let n = count_small c.window good.window_good r in (s.0, s.1, omega arith)

  pub target_fits : (r : ℕ) → TargetFits (target c.window r)
  target_fits r = go (target c.window r) (good.window_good.targets_known r)
    where
      go : (o : Option Target) → IsTarget c.window o → TargetFits o
      go None t = tt
      go (Some t) x = let a = x.0 in let n = good.files_few in (omega arith, x.1)
