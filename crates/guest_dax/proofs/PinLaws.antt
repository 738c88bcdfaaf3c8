-- A pin on what is placed.
use Rattle.std.proofs.Common.{◌≡◌, ◌∙◌, ap, sym, refl, subst, ℕ, ◌+◌, ◌<◌, ◌≤◌, true, List, [], ◌∷◌, zero, suc, length, get_or, slice_set, Option, None, Some, inl, inr, arith}
use Rattle.std.specs.Prelude.{IsSome, unwrap_or}
use Rattle.std.proofs.lemmas.Bool.{cases_eq}
use Rattle.std.proofs.lemmas.List.{get_or-set_other}
use Rattle.std.proofs.lemmas.Grind.{common_steps, elements}
use Rattle.page_map.specs.declared.pages.Mode.{Mode}
use Rattle.page_map.specs.declared.pages.Mode.TheVariants as modes
use Rattle.page_map.specs.declared.ranges.LogEntry.{LogEntry}
use Rattle.page_map.specs.declared.ranges.Placed.{Placed}
use Rattle.page_map.specs.declared.ranges.Target.{Target}
use Rattle.page_map.specs.Logs.{Slot, is_writable, placed_at, slot_in}
use Rattle.page_map.specs.Board.{MapView, log_at}
use Rattle.range_tree.specs.Logs.{Finds, is_live}
use Rattle.range_tree.specs.Ranges.{range_count, pins_on, pinned_in, tree_slot, slot_at, tree_of, slot_target, no_target, with_pin, IsSoundRanges, IsAtLeast, is_enough}
use Rattle.guest_dax.specs.Stands.{KeepsMap}
use Rattle.guest_dax.specs.Pinning.{PlacesIn, IsPin, IsEnoughPlaced, PinsFound}
use Rattle.guest_dax.proofs.Keeping.{KeepsMap-same, IsAtLeast-same}
use Rattle.guest_dax.proofs.Placing.{slotted-in}
use Rattle.guest_dax.specs.declared.pins.Pinned.{Pinned}

pub tree-slot : (v : MapView) (file range : ℕ) (s : Slot) → v.hands.tree ≡ Some file → slot_in (log_at v file) range ≡ Some s → tree_slot v range ≡ Some s
unfolding slot_at
tree-slot v file range s tree e = rw tree e

some-slot : (o : Option Slot) (s : Slot) → o ≡ Some s → IsSome o
some-slot o s e = subst (λ o. IsSome o) (sym e) refl

tree-slot-is : (v : MapView) (file range : ℕ) → v.hands.tree ≡ Some file → tree_slot v range ≡ slot_in (log_at v file) range
unfolding slot_at
tree-slot-is v file range tree = rw tree refl

pub pin-had : (v : MapView) (file chunk : ℕ) (p : Placed) → v.hands.tree ≡ Some file → IsSoundRanges v → placed_at (log_at v file) chunk ≡ Some p → IsSome (tree_slot v p.range)
pin-had v file chunk p tree sound e = some-slot (tree_slot v p.range) (record { chunk = chunk; range = p.range; mode = p.mode; entry = p.entry }) (tree-slot v file p.range (record { chunk = chunk; range = p.range; mode = p.mode; entry = p.entry }) tree (slotted-in v file chunk p tree sound e).there)

writes : (mode : Mode) → is_enough modes.W mode ≡ true → is_writable mode ≡ true
unfolding is_enough is_writable
writes modes.R e = e
writes modes.W e = refl

-- what is found is gone through
live-found : (log : List LogEntry) (chunk : ℕ) (mode : Mode) (p : Placed) → Finds log chunk (Some p) → is_enough mode p.mode ≡ true → is_live (is_writable mode) log chunk p.entry (length log) ≡ true
unfolding Finds is_writable
live-found log chunk modes.R p found enough = found.live
live-found log chunk modes.W p found enough = sym found.written ∙ writes p.mode enough

-- and its entry places the chunk in its range
place-found : (log : List LogEntry) (chunk : ℕ) (p : Placed) → Finds log chunk (Some p) → PlacesIn log p.entry chunk p.range
unfolding Finds
place-found log chunk p found = (found.at_first, found.entry)

set-here : {X : Type 0} (xs : List X) (i : ℕ) (x d : X) → i < length xs → get_or (slice_set xs i x) i d ≡ x
set-here xs i x d h = grind (arith, elements)

length-set : {X : Type 0} (xs : List X) (i : ℕ) (x : X) → length (slice_set xs i x) ≡ length xs
length-set xs i x = grind (arith, common_steps)

pub tree-of : (v : MapView) (file : ℕ) → v.hands.tree ≡ Some file → tree_of v ≡ file
tree-of v file e = ap (λ (t : Option ℕ). unwrap_or t 0) e

target-of : (file : ℕ) (o : Option Slot) (s : Slot) → o ≡ Some s → slot_target file o ≡ record { file = file; chunk = s.chunk; mode = s.mode }
unfolding slot_target
target-of file o s e = rw e refl

pub IsPin-with_pin : (v : MapView) (file chunk : ℕ) (mode : Mode) (p : Placed) → v.hands.tree ≡ Some file → IsSoundRanges v → placed_at (log_at v file) chunk ≡ Some p → Finds (log_at v file) chunk (Some p) → is_enough mode p.mode ≡ true → IsPin (with_pin v p.range) file chunk mode (record { range = p.range; through = record { entry = p.entry; upto = length (log_at v file) } })
IsPin-with_pin v file chunk mode p tree sound e finds enough =
    let s : Slot = record { chunk = chunk; range = p.range; mode = p.mode; entry = p.entry } in
    let k = slotted-in v file chunk p tree sound e in
    let there = k.there in
    let within = k.within in
    let long : p.range < length v.ranges.pinned = omega (arith, within, sound.pinned) in
    let t : Target = slot_target (tree_of v) (tree_slot v p.range) in
    let is : t ≡ record { file = file; chunk = chunk; mode = p.mode } = target-of (tree_of v) (tree_slot v p.range) s (tree-slot v file p.range s tree there) ∙ ap (λ f. record { file = f; chunk = chunk; mode = p.mode }) (tree-of v file tree) in
    let known : pinned_in (with_pin v p.range) p.range ≡ record { file = file; chunk = chunk; mode = p.mode } = set-here v.ranges.pinned p.range t no_target long ∙ is in
    let had : pins_on (with_pin v p.range) p.range ≡ pins_on v p.range + 1 = set-here v.hands.pins p.range (pins_on v p.range + 1) 0 within in
    record {
      live = live-found (log_at v file) chunk mode p finds enough;
      upto = refl;
      entry = place-found (log_at v file) chunk p finds;
      range = rw (length-set v.hands.pins p.range (pins_on v p.range + 1)) within;
      had = omega (arith, had);
      pinned = record { same_file = ap (λ (t : Target). t.file) known; same_chunk = ap (λ (t : Target). t.chunk) known; enough = ap (λ (t : Target). is_enough mode t.mode) known ∙ enough };
    }

pub enough-placed : (mode : Mode) (o : Option Placed) (p : Placed) → o ≡ Some p → IsEnoughPlaced mode o → is_enough mode p.mode ≡ true
unfolding IsEnoughPlaced
enough-placed mode o p e h = subst (λ o. IsEnoughPlaced mode o) e h

-- a slot of the tree in a pinned range is what is known there, or more
slot-at-least : (v : MapView) (file range : ℕ) (s : Slot) → v.hands.tree ≡ Some file → IsSoundRanges v → range < range_count v → tree_slot v range ≡ Some s → 0 < pins_on v range → IsAtLeast (pinned_in v range) (record { file = file; chunk = s.chunk; mode = s.mode })
slot-at-least v file range s tree sound within here pinned =
    let at = sound.pins range within pinned in
    let same : Some (pinned_in v range).file ≡ Some file = sym (sound.pin_tree range pinned (some-slot (tree_slot v range) s here)) ∙ tree in
    let f : (pinned_in v range).file ≡ file = cc in
    let mine : Some at.slot ≡ Some s = sym at.placed ∙ ap (λ n. slot_in (log_at v n) range) f ∙ sym (tree-slot-is v file range tree) ∙ here in
    let e : at.slot ≡ s = cc in
    record { same_file = sym f; same_chunk = ap (λ (s : Slot). s.chunk) (sym e) ∙ at.same_chunk; enough = ap (λ (s : Slot). is_enough (pinned_in v range).mode s.mode) (sym e) ∙ at.enough }

-- what is known under pins stays known under one more
pinned-kept : (v : MapView) (at : ℕ) (t : Target) → at < length v.ranges.pinned → (range : ℕ) → (range ≡ at → IsAtLeast (pinned_in v range) t) → IsAtLeast (pinned_in v range) (get_or (slice_set v.ranges.pinned at t) range no_target)
pinned-kept v at t within range h = elim (cases_eq range at) [
  | inl same ↦ subst (λ (u : Target). IsAtLeast (pinned_in v range) u) (sym (ap (λ r. get_or (slice_set v.ranges.pinned at t) r no_target) same ∙ set-here v.ranges.pinned at t no_target within)) (h same)
  | inr other ↦ subst (λ (u : Target). IsAtLeast (pinned_in v range) u) (sym (get_or-set_other v.ranges.pinned at range t no_target other)) (IsAtLeast-same (pinned_in v range))
]

more-pins : (xs : List ℕ) (at range : ℕ) → get_or xs range 0 ≤ get_or (slice_set xs at (get_or xs at 0 + 1)) range 0
more-pins [] at range = omega arith
more-pins (x ∷ xs) zero zero = omega arith
more-pins (x ∷ xs) zero (suc range) = omega arith
more-pins (x ∷ xs) (suc at) zero = omega arith
more-pins (x ∷ xs) (suc at) (suc range) = more-pins xs at range

pub KeepsMap-pin : (v : MapView) (file chunk : ℕ) (p : Placed) → v.hands.tree ≡ Some file → IsSoundRanges v → placed_at (log_at v file) chunk ≡ Some p → (w : MapView) → w ≡ with_pin v p.range → KeepsMap v w
KeepsMap-pin v file chunk p tree sound e w is =
    let s : Slot = record { chunk = chunk; range = p.range; mode = p.mode; entry = p.entry } in
    let k = slotted-in v file chunk p tree sound e in
    let there = k.there in
    let within = k.within in
    let here : tree_slot v p.range ≡ Some s = tree-slot v file p.range s tree there in
    let t : Target = slot_target (tree_of v) (tree_slot v p.range) in
    let is_t : t ≡ record { file = file; chunk = chunk; mode = p.mode } = target-of (tree_of v) (tree_slot v p.range) s here ∙ ap (λ f. record { file = f; chunk = chunk; mode = p.mode }) (tree-of v file tree) in
    let same = KeepsMap-same v in
    subst (λ (m : MapView). KeepsMap v m) (sym is) (record {
      plain = refl;
      over = refl;
      guest = refl;
      may_take = refl;
      others = refl;
      pages = refl;
      count = length-set v.hands.pins p.range (pins_on v p.range + 1);
      files = refl;
      logs = same.logs;
      pins = λ range. more-pins v.hands.pins p.range range;
      pinned = λ range had. pinned-kept v p.range t (omega (arith, within, sound.pinned)) range (λ eq.
          subst (λ (u : Target). IsAtLeast (pinned_in v range) u) (sym is_t) (
          slot-at-least v file range s tree sound (subst (λ r. r < range_count v) (sym eq) within) (ap (λ r. tree_slot v r) eq ∙ here) had));
    })

-- all that a pin says
pub PinsFound-some : (v : MapView) (file chunk : ℕ) (mode : Mode) (p : Placed) (upto : ℕ) (w : MapView) → v.hands.tree ≡ Some file → IsSoundRanges v → placed_at (log_at v (tree_of v)) chunk ≡ Some p → Finds (log_at v (tree_of v)) chunk (Some p) → IsEnoughPlaced mode (placed_at (log_at v file) chunk) → upto ≡ length (log_at v (tree_of v)) → w ≡ with_pin v p.range →
    PinsFound v file chunk mode (Some (record { range = p.range; through = record { entry = p.entry; upto = upto } })) w
PinsFound-some v file chunk mode p upto w tree sound e finds enough long is =
    let t = tree-of v file tree in
    let e' : placed_at (log_at v file) chunk ≡ Some p = subst (λ f. placed_at (log_at v f) chunk ≡ Some p) t e in
    let finds' : Finds (log_at v file) chunk (Some p) = subst (λ f. Finds (log_at v f) chunk (Some p)) t finds in
    let long' : length (log_at v file) ≡ upto = sym (long ∙ ap (λ f. length (log_at v f)) t) in
    let pin = IsPin-with_pin v file chunk mode p tree sound e' finds' (enough-placed mode (placed_at (log_at v file) chunk) p e' enough) in (
      is,
      ap (λ (m : MapView). log_at m file) is,
      subst (λ n. IsPin w file chunk mode (record { range = p.range; through = record { entry = p.entry; upto = n } })) long' (subst (λ (m : MapView). IsPin m file chunk mode (record { range = p.range; through = record { entry = p.entry; upto = length (log_at v file) } })) (sym is) pin),
      KeepsMap-pin v file chunk p tree sound e' w is,
    )

pub pin-had-raw : (v : MapView) (file chunk : ℕ) (p : Placed) → v.hands.tree ≡ Some file → IsSoundRanges v → placed_at (log_at v (tree_of v)) chunk ≡ Some p → IsSome (tree_slot v p.range)
pin-had-raw v file chunk p tree sound e = pin-had v file chunk p tree sound (subst (λ f. placed_at (log_at v f) chunk ≡ Some p) (tree-of v file tree) e)

pub PinsFound-keeps : (v : MapView) (file chunk : ℕ) (mode : Mode) (o : Option Pinned) (w : MapView) → PinsFound v file chunk mode o w → KeepsMap v w
PinsFound-keeps v file chunk mode None w (e, none) = subst (λ (m : MapView). KeepsMap v m) (sym e) (KeepsMap-same v)
PinsFound-keeps v file chunk mode (Some p) w (e, log, pin, keeps) = keeps

pub PinsFound-logs : (v : MapView) (file chunk : ℕ) (mode : Mode) (o : Option Pinned) (w : MapView) → PinsFound v file chunk mode o w → w.ranges.logs ≡ v.ranges.logs
PinsFound-logs v file chunk mode None w (e, none) = ap (λ (m : MapView). m.ranges.logs) e
PinsFound-logs v file chunk mode (Some p) w (e, log, pin, keeps) = ap (λ (m : MapView). m.ranges.logs) e
