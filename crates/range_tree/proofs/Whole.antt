-- What holds of each board of one guest, and its pins.
use Rattle.std.proofs.Common.{◌≡◌, ◌∙◌, ap, sym, refl, subst, ℕ, ◌+◌, ◌*◌, ◌<◌, ◌≤◌, List, length, sum, get_or, slice_set, Option, Some, None, inl, inr, arith}
use Rattle.std.specs.Prelude.{IfSome, IsSome, unwrap_or}
use Rattle.std.proofs.lemmas.Bool.{cases_lt, cases_eq}
use Rattle.std.proofs.lemmas.List.{set-get_or, length-set, get_or-set_same, get_or-set_other, get_or_past}
use Rattle.std.proofs.lemmas.List.Sums.{get_or-le-sum_by}
use Rattle.page_map.specs.declared.ranges.Target.{Target}
use Rattle.page_map.specs.Logs.{Slot, slot_in}
use Rattle.range_tree.specs.declared.plain.Owner.{Owner}
use Rattle.range_tree.specs.Ranges.{no_target, IsSoundRanges, IsPinnedAt, IsAtLeast, tree_slot, slot_at, slot_target, with_pin}
use Rattle.range_tree.specs.Plain.{Parts, plain_view, owner_at, map_at, pins_at, pinned_at, entries_of, owned_slot, slot_for, owned_target, IsPinTarget, IsOwned, IsMoved, IsPlainRanges}
use Rattle.range_tree.proofs.OneGuest.{slot_for-own, owner-slot}
use Rattle.range_tree.proofs.Seeing.{tree-slot}
use Rattle.range_tree.proofs.Pages.{length-table, holds-range}

pinned-at : (s : Parts) (range : ℕ) → IsPlainRanges s → 0 < pins_at s range → IsPinnedAt (plain_view s) range (pinned_at s range)
pinned-at s range i h =
    let p : IsPinTarget (owner_at s range) (pinned_at s range) = i.pins range h in
    let w : IsOwned (length s.logs) (map_at s range) p.own = i.owned range p.own p.placed in
    let e : IsAtLeast (pinned_at s range) (owned_target p.own) = p.enough in
    record {
      known = subst (λ f. f < length s.logs) e.same_file w.known;
      slot = owned_slot range p.own;
      placed = subst (λ f. slot_in (entries_of s f) range ≡ Some (owned_slot range p.own)) e.same_file (i.slots p.own.file range ∙ ap (slot_for p.own.file range) p.placed ∙ slot_for-own range p.own);
      same_chunk = e.same_chunk;
      enough = e.enough;
    }

apart : (s : Parts) (range : ℕ) (t : Option ℕ) → IsPlainRanges s → s.tree ≡ t → owner_at s range ≡ None → tree_slot (plain_view s) range ≡ None
unfolding slot_at slot_for
apart s range None i t e = ap (λ (t : Option ℕ). slot_at t s.logs range) t
apart s range (Some file) i t e = tree-slot s range file i t ∙ ap (slot_for file range) e

moved : (s : Parts) (m : Option ℕ) → IsPlainRanges s → s.moves ≡ m → IfSome m (λ range. (range < length s.pins) × (pins_at s range ≡ 0))
moved s None i e = tt
moved s (Some range) i e = let m = i.moves range e in (m.within, m.unpinned)

-- what is in the tree that is had is of its file
some-tree : (s : Parts) (range : ℕ) (t : Option ℕ) (p : Owner) → IsPlainRanges s → s.tree ≡ t → owner_at s range ≡ Some p → IsSome (tree_slot (plain_view s) range) → t ≡ Some p.file
unfolding slot_at
some-tree s range None p i e own some = absurd (let k : IsSome (slot_at None s.logs range) = subst (λ (t : Option ℕ). IsSome (slot_at t s.logs range)) e some in cc)
some-tree s range (Some file) p i e own some = go (slot_for file range (Some p)) refl (subst (λ (o : Option Slot). IsSome o) (tree-slot s range file i e ∙ ap (slot_for file range) own) some)
  where
    go : (o : Option Slot) → slot_for file range (Some p) ≡ o → IsSome o → Some file ≡ Some p.file
    go None at is = absurd (cc)
    go (Some x) at is = ap (λ n. Some n) (sym (owner-slot file range (Some p) x at).0.0)

pin-tree : (s : Parts) (range : ℕ) → IsPlainRanges s → 0 < pins_at s range → IsSome (tree_slot (plain_view s) range) → s.tree ≡ Some (pinned_at s range).file
pin-tree s range i h some =
    let p : IsPinTarget (owner_at s range) (pinned_at s range) = i.pins range h in
    some-tree s range s.tree p.own i refl p.placed some ∙ ap (λ n. Some n) p.enough.same_file

pub sound-whole : (s : Parts) → IsPlainRanges s → IsSoundRanges (plain_view s)
sound-whole s i = record {
  plain = refl;
  few = i.few;
  pages = length-table s.maps ∙ ap (λ n. 512 * n) i.maps;
  pinned = i.pinned;
  looks = i.looks;
  targets = i.targets;
  tree = i.tree;
  moves = moved s s.moves i refl;
  apart = λ range e. let m = i.moves range e in apart s range s.tree i refl m.empty;
  logs = i.logs;
  held = λ range within hand. holds-range s range (omega (arith, within, i.maps));
  pins = λ range within h. pinned-at s range i h;
  pin_tree = λ range h some. pin-tree s range i h some;
}

-- ---- pins

pins_past : (s : Parts) (range : ℕ) → length s.pins ≤ range → pins_at s range ≡ 0
pins_past s range past = get_or_past s.pins range 0 past

-- one pin more or less on a range, of which at least so much is placed
pub inv-pins : {s : Parts} (range count : ℕ) (t : Target) → IsPlainRanges s → range < length s.pins → (0 < count → IsPinTarget (owner_at s range) t) → (s.moves ≡ Some range → count ≡ 0) →
    IsPlainRanges (record s { pins = slice_set s.pins range count; pinned = slice_set s.pinned range t })
inv-pins {s} range count t i within h still =
    let pins = slice_set s.pins range count in
    let long : length pins ≡ length s.pins = length-set s.pins range count in
    let here : get_or pins range 0 ≡ count = get_or-set_same s.pins range count 0 within in
    let at : get_or (slice_set s.pinned range t) range no_target ≡ t = get_or-set_same s.pinned range t no_target (omega (arith, i.pinned, within)) in
    record {
      few = omega (arith, long, i.few);
      files = i.files;
      pinned = length-set s.pinned range t ∙ i.pinned ∙ sym long;
      looks = i.looks ∙ sym long;
      targets = i.targets ∙ sym long;
      owners = i.owners ∙ sym long;
      maps = i.maps ∙ sym long;
      tree = i.tree;
      moves = λ r e. let m = i.moves r e in record {
        within = omega (arith, long, m.within);
        unpinned = elim (cases_eq r range) [
          | inl same ↦ ap (λ n. get_or pins n 0) same ∙ here ∙ still (e ∙ ap (λ n. Some n) same)
          | inr other ↦ get_or-set_other s.pins range r count 0 other ∙ m.unpinned
        ];
        empty = m.empty;
      };
      logs = λ file known. rw long (i.logs file known);
      slots = i.slots;
      owned = i.owned;
      pins = λ r some. elim (cases_eq r range) [
        | inl same ↦ subst (λ r. IsPinTarget (owner_at s r) (get_or (slice_set s.pinned range t) r no_target)) (sym same) (subst (λ x. IsPinTarget (owner_at s range) x) (sym at) (h (subst (λ n. 0 < n) (ap (λ n. get_or pins n 0) same ∙ here) some)))
        | inr other ↦ subst (λ x. IsPinTarget (owner_at s r) x) (sym (get_or-set_other s.pinned range r t no_target other)) (i.pins r (subst (λ n. 0 < n) (get_or-set_other s.pins range r count 0 other) some))
      ];
    }

-- a pin makes known what is placed in the range
pub pins-one : (s : Parts) (range : ℕ) (o : Owner) → IsPlainRanges s → s.tree ≡ Some o.file → owner_at s range ≡ Some o →
    plain_view (record s { pins = slice_set s.pins range (pins_at s range + 1); pinned = slice_set s.pinned range (owned_target o) }) ≡ with_pin (plain_view s) range
unfolding slot_target
pins-one s range o i t e =
    let slot : tree_slot (plain_view s) range ≡ Some (owned_slot range o) = tree-slot s range o.file i t ∙ ap (slot_for o.file range) e ∙ slot_for-own range o in
    let known : slot_target (unwrap_or s.tree 0) (tree_slot (plain_view s) range) ≡ owned_target o = ap (slot_target (unwrap_or s.tree 0)) slot ∙ ap (λ (t : Option ℕ). slot_target (unwrap_or t 0) (Some (owned_slot range o))) t in
    ap (λ k. plain_view (record s { pins = slice_set s.pins range (pins_at s range + 1); pinned = slice_set s.pinned range k })) (sym known)

-- what is in the tree that is had is placed
pub placed-some : (s : Parts) (range : ℕ) (t : Option ℕ) (o : Option Owner) → IsPlainRanges s → s.tree ≡ t → owner_at s range ≡ o → IsSome (tree_slot (plain_view s) range) → IfSome o (λ own. t ≡ Some own.file) × IsSome o
unfolding slot_at slot_for
placed-some s range t None i e own some = absurd (let k : tree_slot (plain_view s) range ≡ None = apart s range t i e own in let l : IsSome {T = Slot} None = subst (λ (o : Option Slot). IsSome o) k some in cc)
placed-some s range t (Some p) i e own some = (some-tree s range t p i e own some, refl)

pub within-owned : (s : Parts) (range : ℕ) → IsPlainRanges s → IsSome (owner_at s range) → range < length s.pins
within-owned s range i some = elim (cases_lt range (length s.pins)) [
  | inl h ↦ h
  | inr past ↦ absurd (let k : owner_at s range ≡ None = get_or_past s.owners range None (omega (arith, past, i.owners)) in let l : IsSome {T = Owner} None = subst (λ (o : Option Owner). IsSome o) k some in cc)
]

pub within-pinned : (s : Parts) (range : ℕ) → 0 < pins_at s range → range < length s.pins
within-pinned s range some = elim (cases_lt range (length s.pins)) [
  | inl h ↦ h
  | inr past ↦ absurd (let k = pins_past s range past in omega (arith, k, some))
]

-- no pin counts more than all together
pub pins-sum : (pins : List ℕ) (range : ℕ) → range < length pins → get_or pins range 0 ≤ sum pins
pins-sum pins range within = get_or-le-sum_by (λ (n : ℕ). n) pins range 0 within

-- a pin of several, or the last one, is given back
pub inv-unpin : {s : Parts} (range count : ℕ) → IsPlainRanges s → 0 < pins_at s range → IsPlainRanges (record s { pins = slice_set s.pins range count })
inv-unpin {s} range count i had =
    subst (λ (l : List Target). IsPlainRanges (record s { pins = slice_set s.pins range count; pinned = l })) (set-get_or s.pinned range no_target)
    (inv-pins range count (pinned_at s range) i (within-pinned s range had) (λ some. i.pins range had)
    (λ e. absurd (let m : IsMoved s range = i.moves range e in let none = m.unpinned in omega (arith, none, had))))
