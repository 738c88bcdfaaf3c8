-- What a good core tells of the pass that it is shown to.
use Rattle.std.proofs.Common.{◌≡◌, ◌≢◌, ◌∙◌, ap, sym, subst, refl, ℕ, ◌<◌, ◌≤◌, arith, Bool, true, false, List, length, take, slice_get, Option, Some, None}
use Rattle.seats.specs.Views.{guests}
use Rattle.page_map.specs.declared.ranges.LogEntry.{LogEntry}
use Rattle.page_map.specs.declared.ranges.Placed.{Placed}
use Rattle.page_map.specs.Logs.{Slot, placed_of, slot_in, sound}
use Rattle.range_tree.proofs.Entries.{slot_placed, slot_in-placed, placed_at-slot}
use Rattle.range_share.proofs.BoardsLogs.{sound_front, slot_range}
use Rattle.window_core.specs.declared.states.Pin.{Pin}
use Rattle.window_core.specs.declared.states.RangeState.TheVariants as ranges
use Rattle.window_core.specs.Window.{Window, state, side, target, seen_by}
use Rattle.window_core.specs.Good.{GoodWindow, PinOk}
use Rattle.window_core.specs.Shown.{holds, is_guest}
use Rattle.window_core.proofs.Keeps.{moving_mapped, same_mapped, mapped_inside, moving_inside}
use Rattle.range_share.specs.Table.{Knows}
use Rattle.range_share.specs.Steps.{IsShowing, HasIn, branch_of, moves_at, map_shown, ranges_of, files_of}
use Rattle.range_share.proofs.Parts.{pins_are, ranges_are, files_are, seen_part, holder_is, side_there, has_is, moves_is, map_seen, mapped_names, is_itself}

none_else : (b : Bool) → (b ≡ true → ⊥) → b ≡ false
none_else true h = absurd (h refl)
none_else false h = refl

module _ (v : Knows) (s : IsShowing v) where
  w : Window
  w = s.core.window

  good : GoodWindow guests s.core.window
  good = s.good.window_good

  -- no other tree is had, and no other range moved
  pub one_tree : (f : ℕ) → (branch_of v f).had ≡ true → (i : ℕ) → i ≢ f → (branch_of v i).had ≡ false
  one_tree f has i ne = none_else (branch_of v i).had (λ too. ne (s.good.window_good.one_tree i f v.guest (holder_is v s.core s.part i too) (holder_is v s.core s.part f has)))

  pub one_moved : (r : ℕ) → moves_at v r ≡ true → (i : ℕ) → i ≢ r → moves_at v i ≡ false
  one_moved r has i ne = none_else (moves_at v i) (λ too. ne (s.good.window_good.one_moved i r v.guest (moves_is v s.core s.part i too) (moves_is v s.core s.part r has)))

  pub tree_near : (f : ℕ) → (branch_of v f).had ≡ true → f < files_of v
  tree_near f has = let l = side_there v s.core s.part f has in let n = files_are v s.core s.part in omega (arith, l, n)

  pub moves_near : (r : ℕ) → moves_at v r ≡ true → r < ranges_of v
  moves_near r has = let l = moving_inside s.core.window r v.guest (moves_is v s.core s.part r has) in let n = ranges_are v s.core s.part in omega (arith, l, n)

  pub ranges_few : ranges_of v ≤ 256
  ranges_few = let l = s.good.window_good.ranges_few in let n = ranges_are v s.core s.part in omega (arith, l, n)

  -- ---- logs

  -- what is seen of a log is sound
  pub seen_sound : (f : ℕ) → f < files_of v → sound (ranges_of v) (branch_of v f).seen ≡ true
  seen_sound f near =
      let n = files_are v s.core s.part in
      let l : f < length s.core.window.sides = omega (arith, near, n) in
      let whole = (s.good.window_good.sides_ok f l).log_sound in
      let k : ℕ = seen_by (side s.core.window f) v.guest in
      let log : List LogEntry = (side s.core.window f).log in
      subst (λ x. sound (ranges_of v) x ≡ true) (sym (seen_part v s.core s.part f))
      (subst (λ m. sound m (take k log) ≡ true) (sym (ranges_are v s.core s.part)) (sound_front (length s.core.window.states) log k whole))

  -- what the tree that is had has in a range
  pub record InTree (f r : ℕ) (t : Slot) : Type 0 where
    pub has : HasIn v.mine f t.chunk (placed_of t)
    pub range : t.range ≡ r

  pub in_tree : (f r : ℕ) (t : Slot) → (branch_of v f).had ≡ true → slot_in (branch_of v f).seen r ≡ Some t → InTree f r t
  in_tree f r t had at = record {
    has = record { had = had; placed = placed_at-slot (ranges_of v) (branch_of v f).seen r t (seen_sound f (tree_near f had)) at };
    range = slot_range (branch_of v f).seen r t at;
  }

  pub slot_of_placed : (f c : ℕ) (p : Placed) → HasIn v.mine f c p → slot_in (branch_of v f).seen p.range ≡ Some (slot_placed c p)
  slot_of_placed f c p has = slot_in-placed (ranges_of v) (branch_of v f).seen c p (seen_sound f (tree_near f has.had)) has.placed

  -- and so it is mapped
  pub tree_mapped : (f c : ℕ) (p : Placed) → HasIn v.mine f c p → state s.core.window p.range ≡ ranges.Mapped f c p.mode
  tree_mapped f c p has = let b = has_is v s.core s.part s.good.window_good f c p has in s.good.window_good.placed_mapped f c p b.1

  pub placed_near : (f c : ℕ) (p : Placed) → HasIn v.mine f c p → p.range < ranges_of v
  placed_near f c p has = let l = mapped_inside s.core.window p.range f c p.mode (tree_mapped f c p has) in let n = ranges_are v s.core s.part in omega (arith, l, n)

  -- the moved range is in no tree that is had
  pub moved_apart : (r f : ℕ) → moves_at v r ≡ true → (branch_of v f).had ≡ true → slot_in (branch_of v f).seen r ≡ None
  moved_apart r f m had = go (slot_in (branch_of v f).seen r) refl
    where
      go : (o : Option Slot) → slot_in (branch_of v f).seen r ≡ o → slot_in (branch_of v f).seen r ≡ None
      go None e = e
      go (Some t) e =
          let x : InTree f r t = in_tree f r t had e in
          let st : state s.core.window r ≡ ranges.Mapped f t.chunk t.mode = ap (state s.core.window) (sym x.range) ∙ tree_mapped f t.chunk (placed_of t) x.has in
          absurd (moving_mapped f t.chunk v.guest t.mode (sym (moves_is v s.core s.part r m) ∙ st))

  -- ---- maps

  -- the maps of ranges in hand are shown
  pub moved_shown : (r : ℕ) → moves_at v r ≡ true → map_shown v.mine r ≡ Some (target s.core.window r)
  moved_shown r m =
      let st = moves_is v s.core s.part r m in
      map_seen v s.core s.part r (moving_inside s.core.window r v.guest st) (ap (holds v.guest s.core.window) st ∙ is_itself v.guest)

  pub placed_shown : (f c : ℕ) (p : Placed) → HasIn v.mine f c p → map_shown v.mine p.range ≡ Some (target s.core.window p.range)
  placed_shown f c p has =
      let st = tree_mapped f c p has in
      map_seen v s.core s.part p.range (mapped_inside s.core.window p.range f c p.mode st)
      (ap (holds v.guest s.core.window) st ∙ (ap (is_guest v.guest) (holder_is v s.core s.part f has.had) ∙ is_itself v.guest))

  -- ---- pins

  pub pin_ok : (k : ℕ) (x : Pin) → slice_get v.mine.shown.pins k ≡ Some x → PinOk s.core.window v.guest x
  pin_ok k x at = s.good.window_good.pins_ok v.guest k x (ap (λ l. slice_get l k) (sym (pins_are v s.core s.part)) ∙ at)

  pub pin_near : (k : ℕ) (x : Pin) → slice_get v.mine.shown.pins k ≡ Some x → x.range < ranges_of v
  pin_near k x at = let ok = pin_ok k x at in let l = mapped_inside s.core.window x.range x.file x.chunk ok.mode ok.state_is in let n = ranges_are v s.core s.part in omega (arith, l, n)

  -- a range that is moved has no pin
  pub unpinned_moved : (r k : ℕ) (x : Pin) → moves_at v r ≡ true → slice_get v.mine.shown.pins k ≡ Some x → x.range ≢ r
  unpinned_moved r k x m at e =
      let ok = pin_ok k x at in
      moving_mapped x.file x.chunk v.guest ok.mode (sym (moves_is v s.core s.part r m) ∙ (ap (state s.core.window) (sym e) ∙ ok.state_is))

  -- a pinned range in the tree that is had is in that of the pinned file
  pub pin_tree : (k f c : ℕ) (x : Pin) (p : Placed) → slice_get v.mine.shown.pins k ≡ Some x → HasIn v.mine f c p → p.range ≡ x.range → f ≡ x.file
  pin_tree k f c x p at has e =
      let ok = pin_ok k x at in
      (same_mapped f c x.file x.chunk p.mode ok.mode (sym (tree_mapped f c p has) ∙ (ap (state s.core.window) e ∙ ok.state_is))).0

  pub pin_file : (k : ℕ) (x : Pin) → slice_get v.mine.shown.pins k ≡ Some x → x.file < files_of v
  pin_file k x at =
      let ok = pin_ok k x at in
      let l = (mapped_names s.core.window s.good.window_good x.range x.file x.chunk ok.mode ok.state_is).0 in
      let n = files_are v s.core s.part in
      omega (arith, l, n)
