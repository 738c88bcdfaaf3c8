-- The pins of a board: each was made from entries that are seen, and its chunk is placed at their end.
use Rattle.std.proofs.Common.{◌≡◌, ◌∙◌, ap, sym, subst, refl, ℕ, ◌<◌, ◌≤◌, arith, true, List, [], ◌∷◌, ◌++◌, length, length-append, append-nil, set, get_or-set_same, get_or-set_other, take, drop, slice_get, Some, inl, inr}
use Rattle.std.proofs.lemmas.List.{take-append-drop, length-take-le}
use mathlib.Core.Logic.{dite}
use native.Mathlib.Decide.{ℕ_discrete}
use Rattle.page_map.specs.declared.pages.Mode.{Mode}
use Rattle.page_map.specs.declared.pages.Mode.TheVariants as modes
use Rattle.page_map.specs.declared.ranges.LogEntry.{LogEntry}
use Rattle.page_map.specs.declared.ranges.Placed.{Placed}
use Rattle.page_map.specs.Logs.{Slot, slot_in, placed_at, sound, writable}
use Rattle.range_tree.specs.Ranges.{is_enough}
use Rattle.range_tree.proofs.Entries.{slot_placed, slot_in-placed}
use Rattle.window_core.specs.declared.states.Pin.{Pin}
use Rattle.window_core.specs.Window.{Side, unpinned, side, seen_by}
use Rattle.window_core.specs.Shown.{Branch}
use Rattle.window_core.proofs.Living.{Lasts, lasts_live, live_lasts}
use Rattle.window_core.proofs.Exact.{live_placed}
use Rattle.window_core.proofs.Places.{at_end}
use Rattle.range_share.specs.Table.{Mine, Knows, no_branch, branch_in}
use Rattle.range_share.specs.Steps.{IsShowing, HasIn, branch_of, ranges_of}
use Rattle.range_share.specs.Known.{pin_of}
use Rattle.range_share.specs.Boards.{IsSeenIn, PinsSeen}
use Rattle.range_share.proofs.Parts.{files_are, seen_part}
use Rattle.range_share.proofs.BoardsLogs.{writable_front, lasts_front, written_end, placed_live, placed_written}
use Rattle.range_share.proofs.BoardsCore.{seen_sound, pin_ok, pin_file, tree_near}
use Rattle.range_share.proofs.BoardsPins.{in_fewer}

-- ---- what grows keeps it

pub seen_in_longer : (log more : List LogEntry) (p : Pin) → IsSeenIn log p → IsSeenIn (log ++ more) p
seen_in_longer log more p h =
    let w = h.within in
    record {
      before = h.before;
      within = omega (arith, w, length-append log more);
      written = λ e. writable_front log more p.through.entry p.through.upto h.before h.within ∙ h.written e;
    }

-- the logs that are seen only grow
abbrev pub Grows : Mine → Mine → Type 0
Grows m n = (f : ℕ) → (more : List LogEntry) × ((branch_in n.shown.branches f).seen ≡ (branch_in m.shown.branches f).seen ++ more)

pub same_grows : (m n : Mine) → n.shown.branches ≡ m.shown.branches → Grows m n
same_grows m n e f = ([], ap (λ bs. (branch_in bs f).seen) e ∙ sym (append-nil (branch_in m.shown.branches f).seen))

pub put_grows : (m n : Mine) (f : ℕ) (b : Branch) (more : List LogEntry) → f < length m.shown.branches → n.shown.branches ≡ set m.shown.branches f b → b.seen ≡ (branch_in m.shown.branches f).seen ++ more → Grows m n
put_grows m n f b more near e is i = dite (ℕ_discrete i f)
    (λ z. (
      more,
      ap (λ bs. (branch_in bs i).seen) e ∙ (ap (λ j. (branch_in (set m.shown.branches f b) j).seen) z ∙ (ap (λ (x : Branch). x.seen) (get_or-set_same m.shown.branches f b no_branch near)
          ∙ (is ∙ ap (λ j. (branch_in m.shown.branches j).seen ++ more) (sym z)))),
    ))
    (λ ne. ([], ap (λ bs. (branch_in bs i).seen) e ∙ (ap (λ (x : Branch). x.seen) (get_or-set_other m.shown.branches f i b no_branch ne) ∙ sym (append-nil (branch_in m.shown.branches i).seen))))

pub pins_grow : (v w : Knows) → w.mine.shown.pins ≡ v.mine.shown.pins → Grows v.mine w.mine → PinsSeen v → PinsSeen w
pins_grow v w pins grows was k p at =
    let h = was k p (ap (λ l. slice_get l k) (sym pins) ∙ at) in
    let g = grows p.file in
    subst (λ l. IsSeenIn l p) (sym g.1) (seen_in_longer (branch_of v p.file).seen g.0 p h)

pub pins_same : (v w : Knows) → w.mine ≡ v.mine → PinsSeen v → PinsSeen w
pins_same v w e was = subst (λ (m : Mine). (k : ℕ) (p : Pin) → slice_get m.shown.pins k ≡ Some p → IsSeenIn (branch_in m.shown.branches p.file).seen p) (sym e) was

pub pins_fewer : (v w : Knows) (r : ℕ) → w.mine ≡ record v.mine { shown = record v.mine.shown { pins = unpinned r v.mine.shown.pins } } → PinsSeen v → PinsSeen w
pins_fewer v w r e was =
    subst (λ (m : Mine). (k : ℕ) (p : Pin) → slice_get m.shown.pins k ≡ Some p → IsSeenIn (branch_in m.shown.branches p.file).seen p) (sym e)
    (λ k p at. let h = in_fewer r v.mine.shown.pins k p at in was h.0 p h.1)

-- a new pin is made from all that is seen
new_seen : (v : Knows) (f c : ℕ) (x : Placed) → IsShowing v → HasIn v.mine f c x → IsSeenIn (branch_of v f).seen (pin_of v.mine f c x)
new_seen v f c x s has =
    let l = placed_live (ranges_of v) (branch_of v f).seen c x (seen_sound v s f (tree_near v s f has.had)) has.placed in
    record { before = l.before; within = omega arith; written = l.written }

pub pins_more : (v w : Knows) (f c : ℕ) (x : Placed) → IsShowing v → HasIn v.mine f c x → w.mine ≡ record v.mine { shown = record v.mine.shown { pins = v.mine.shown.pins ++ pin_of v.mine f c x ∷ [] } } → PinsSeen v → PinsSeen w
pins_more v w f c x s has e was =
    subst (λ (m : Mine). (k : ℕ) (p : Pin) → slice_get m.shown.pins k ≡ Some p → IsSeenIn (branch_in m.shown.branches p.file).seen p) (sym e)
    (λ k p at. elim (at_end v.mine.shown.pins (pin_of v.mine f c x) p k at) [
      | inl old ↦ was k p old
      | inr (_, new) ↦ subst (λ (y : Pin). IsSeenIn (branch_of v y.file).seen y) new (new_seen v f c x s has)
    ])

-- ---- a pin's chunk is placed at the end of what is seen

pub record IsPinPlaced (v : Knows) (p : Pin) : Type 0 where
  pub slot : Slot
  pub placed : slot_in (branch_of v p.file).seen p.range ≡ Some slot
  pub chunk : slot.chunk ≡ p.chunk
  pub enough : is_enough p.mode slot.mode ≡ true

enough_of : (a b : Mode) → (a ≡ modes.W → b ≡ modes.W) → is_enough a b ≡ true
unfolding is_enough
enough_of modes.R b h = refl
enough_of modes.W modes.R h = absurd (let x = h refl in cc)
enough_of modes.W modes.W h = refl

pin_slot : (v : Knows) (p : Pin) (k : ℕ) (y : Placed) → sound (ranges_of v) (branch_of v p.file).seen ≡ true → placed_at (branch_of v p.file).seen p.chunk ≡ Some y → y.entry ≡ k → y.range ≡ p.range →
    (p.mode ≡ modes.W → writable (branch_of v p.file).seen k (length (branch_of v p.file).seen) ≡ true) → IsPinPlaced v p
pin_slot v p k y is_sound found entry range may =
    let seen : List LogEntry = (branch_of v p.file).seen in
    record {
      slot = slot_placed p.chunk y;
      placed = ap (slot_in seen) (sym range) ∙ slot_in-placed (ranges_of v) seen p.chunk y is_sound found;
      chunk = refl;
      enough = enough_of p.mode y.mode (λ w. placed_written (ranges_of v) seen p.chunk y is_sound found (subst (λ e. writable seen e (length seen) ≡ true) (sym entry) (may w)));
    }

pub pin_placed : (v : Knows) (k : ℕ) (p : Pin) → IsShowing v → slice_get v.mine.shown.pins k ≡ Some p → IsSeenIn (branch_of v p.file).seen p → IsPinPlaced v p
pin_placed v k p s at h =
    let ok = pin_ok v s k p at in
    let x : Side = side s.core.window p.file in
    let n : ℕ = seen_by x v.guest in
    let seen : List LogEntry = (branch_of v p.file).seen in
    let near = pin_file v s k p at in
    let files = files_are v s.core s.part in
    let side_ok = s.good.window_good.sides_ok p.file (omega (arith, near, files)) in
    let within : n ≤ length x.log = side_ok.seen_within v.guest in
    let is : seen ≡ take n x.log = seen_part v s.core s.part p.file in
    let long : length seen ≡ n = ap length is ∙ length-take-le n x.log within in
    let whole : x.log ≡ seen ++ drop n x.log = sym (ap (λ l. l ++ drop n x.log) is ∙ take-append-drop n x.log) in
    let before = h.before in
    let lasts : Lasts x.log p.through.entry n p.chunk p.range ok.first = live_lasts x.log p.through.entry n p.chunk p.range ok.first ok.place (ok.lives n ok.upto_seen within) in
    let here : Lasts seen p.through.entry n p.chunk p.range ok.first = lasts_front seen (drop n x.log) p.through.entry n p.chunk p.range ok.first (omega (arith, long)) (subst (λ l. Lasts l p.through.entry n p.chunk p.range ok.first) whole lasts) in
    let end : Lasts seen p.through.entry (length seen) p.chunk p.range ok.first = subst (λ m. Lasts seen p.through.entry m p.chunk p.range ok.first) (sym long) here in
    let is_sound = seen_sound v s p.file near in
    let b = live_placed (ranges_of v) seen p.through.entry p.chunk p.range ok.first is_sound end.place (lasts_live seen p.through.entry (length seen) p.chunk p.range ok.first end) in
    pin_slot v p p.through.entry b.0 is_sound b.1 b.2 b.3 (λ w. written_end seen p.through.entry p.through.upto h.before h.within (h.written w))
