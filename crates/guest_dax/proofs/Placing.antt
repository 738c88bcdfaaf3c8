-- What is placed in a sound log is in its range alone, which is one of the window.
use Rattle.std.proofs.Common.{◌≡◌, ◌∙◌, ap, sym, refl, subst, ℕ, ◌+◌, ◌<◌, ◌==◌, ◌&&◌, Bool, true, false, not, nat_lt, is_none, List, [], ◌∷◌, ◌++◌, map, filter, length, Option, Some, None, option_map, inl, inr, arith}
use Rattle.std.specs.Prelude.{IfSome}
use Rattle.std.specs.List.{find, AllByRecursion}
use Rattle.std.proofs.lemmas.Bool.{cases_Bool, and_parts}
use Rattle.std.proofs.lemmas.Grind.{common_steps}
use Rattle.page_map.specs.declared.pages.Mode.{Mode}
use Rattle.page_map.specs.declared.ranges.LogEntry.{LogEntry}
use Rattle.page_map.specs.declared.ranges.LogEntry.TheVariants as entries
use Rattle.page_map.specs.declared.ranges.Placed.{Placed}
use Rattle.page_map.specs.Logs.{Slot, is_of, is_in, upgraded, next_slots, slots_from, slots_of, may_follow, sound_from, sound, placed_at, slot_in, placed_of}
use Rattle.page_map.specs.Board.{MapView, log_at}
use Rattle.range_tree.specs.Ranges.{range_count, IsSoundRanges}
use Rattle.range_tree.proofs.Finds.{find-append_none, find-holds}
use Rattle.range_tree.proofs.Growing.{slots_of-append}
use Rattle.range_tree.proofs.Agreeing.{found_in_range}

-- ---- ranges of a sound log

abbrev AllWithin : ℕ → List Slot → Type 0
AllWithin ranges slots = AllByRecursion (λ (s : Slot). s.range < ranges) slots

within-append : (ranges : ℕ) (xs : List Slot) (y : Slot) → AllWithin ranges xs → y.range < ranges → AllWithin ranges (xs ++ y ∷ [])
within-append ranges [] y all last = (last, tt)
within-append ranges (x ∷ xs) y all last = (all.0, within-append ranges xs y all.1 last)

within-map : (ranges range : ℕ) (xs : List Slot) → AllWithin ranges xs → AllWithin ranges (map (upgraded range) xs)
within-map ranges range [] all = tt
within-map ranges range (x ∷ xs) all = (all.0, within-map ranges range xs all.1)

within-filter : (ranges : ℕ) (keep : Slot → Bool) (xs : List Slot) → AllWithin ranges xs → AllWithin ranges (filter keep xs)
within-filter ranges keep [] all = tt
within-filter ranges keep (x ∷ xs) all = elim (cases_Bool (keep x)) [
  | inl k ↦ rw k (all.0, within-filter ranges keep xs all.1)
  | inr k ↦ rw k (within-filter ranges keep xs all.1)
]

second : (a b c d : Bool) → (a && b && c && d) ≡ true → b ≡ true
second true true c d e = refl
second true false c d e = absurd cc
second false b c d e = absurd cc

below : (a b : ℕ) → nat_lt a b ≡ true → a < b
below a b e = grind (arith, common_steps, e)

within-next : (ranges n : ℕ) (slots : List Slot) (e : LogEntry) → AllWithin ranges slots → may_follow ranges slots e ≡ true → AllWithin ranges (next_slots n slots e)
unfolding may_follow next_slots
within-next ranges n slots (entries.Place c r m) all may =
    within-append ranges slots (record { chunk = c; range = r; mode = m; entry = n }) all (below r ranges (second (nat_lt c 32) (nat_lt r ranges) (is_none (find (is_of c) slots)) (is_none (find (is_in r) slots)) may))
within-next ranges n slots (entries.Upgrade r) all may = within-map ranges r slots all
within-next ranges n slots (entries.Remove r) all may = within-filter ranges (λ s. not (is_in r s)) slots all

within-from : (ranges n : ℕ) (slots : List Slot) (log : List LogEntry) → AllWithin ranges slots → sound_from ranges n slots log ≡ true → AllWithin ranges (slots_from n slots log)
unfolding slots_from sound_from
within-from ranges n slots [] all is = all
within-from ranges n slots (e ∷ log) all is =
    let p = and_parts (may_follow ranges slots e) (sound_from ranges (n + 1) (next_slots n slots e) log) is in
    within-from ranges (n + 1) (next_slots n slots e) log (within-next ranges n slots e all p.0) p.1

within-of : (ranges : ℕ) (log : List LogEntry) → sound ranges log ≡ true → AllWithin ranges (slots_of log)
unfolding sound slots_of
within-of ranges log is = within-from ranges 0 [] log tt is

-- ---- the slot of what is placed

-- what is placed of a chunk is what its range has
pub record IsSlotted (ranges : ℕ) (log : List LogEntry) (chunk : ℕ) (p : Placed) : Type 0 where
  pub there : slot_in log p.range ≡ Some (record { chunk = chunk; range = p.range; mode = p.mode; entry = p.entry })
  pub within : p.range < ranges

eqb-same : (m n : ℕ) → (m == n) ≡ true → m ≡ n
eqb-same m n e = grind (arith, common_steps, e)

placed-slot : (o : Option Slot) (p : Placed) → option_map placed_of o ≡ Some p → (s : Slot) × (o ≡ Some s) × (p ≡ placed_of s)
placed-slot None p e = absurd cc
placed-slot (Some s) p e = (s, refl, cc)

slotted-by : (ranges : ℕ) (log : List LogEntry) (chunk : ℕ) (s : Slot) → sound ranges log ≡ true → find (is_of chunk) (slots_of log) ≡ Some s → IsSlotted ranges log chunk (placed_of s)
unfolding slot_in
slotted-by ranges log chunk s is found =
    let held = find-holds (is_of chunk) (λ (x : Slot). x.range < ranges) (slots_of log) s found (within-of ranges log is) in
    let same : s.chunk ≡ chunk = eqb-same s.chunk chunk held.1 in
    record {
      there = found_in_range ranges log chunk s is found ∙ ap (λ (c : ℕ). Some (record { chunk = c; range = s.range; mode = s.mode; entry = s.entry })) same;
      within = held.0;
    }

pub slotted : (ranges : ℕ) (log : List LogEntry) (chunk : ℕ) (p : Placed) → sound ranges log ≡ true → placed_at log chunk ≡ Some p → IsSlotted ranges log chunk p
unfolding placed_at
slotted ranges log chunk p is e =
    let k = placed-slot (find (is_of chunk) (slots_of log)) p e in
    subst (λ (q : Placed). IsSlotted ranges log chunk q) (sym k.2) (slotted-by ranges log chunk k.0 is k.1)

-- the same of the tree that a board has
if-some : {X : Type 0} (P : X → Type 0) (o : Option X) (x : X) → IfSome o P → o ≡ Some x → P x
if-some P None x h e = absurd cc
if-some P (Some y) x h e = let same : y ≡ x = cc in subst P same h

pub tree-within : (v : MapView) (file : ℕ) → v.hands.tree ≡ Some file → IsSoundRanges v → file < length v.ranges.logs
tree-within v file tree sound = if-some (λ (f : ℕ). f < length v.ranges.logs) v.hands.tree file sound.tree tree

pub slotted-in : (v : MapView) (file chunk : ℕ) (p : Placed) → v.hands.tree ≡ Some file → IsSoundRanges v → placed_at (log_at v file) chunk ≡ Some p → IsSlotted (range_count v) (log_at v file) chunk p
slotted-in v file chunk p tree sound e = slotted (range_count v) (log_at v file) chunk p (sound.logs file (tree-within v file tree sound)) e

-- ---- what is placed after a placement

find-self : (s : Slot) → find (is_of s.chunk) (s ∷ []) ≡ Some s
find-self s =
    let same : (s.chunk == s.chunk) ≡ true = grind (arith, common_steps) in
    rw same refl

none-slot : (o : Option Slot) → option_map placed_of o ≡ None → o ≡ None
none-slot None e = refl
none-slot (Some s) e = absurd cc

pub placed-last : (log : List LogEntry) (chunk range : ℕ) (mode : Mode) → placed_at log chunk ≡ None → placed_at (log ++ entries.Place chunk range mode ∷ []) chunk ≡ Some (record { range = range; mode = mode; entry = length log })
unfolding placed_at next_slots
placed-last log chunk range mode none =
    let s : Slot = record { chunk = chunk; range = range; mode = mode; entry = length log } in
    ap (λ (slots : List Slot). option_map placed_of (find (is_of chunk) slots)) (slots_of-append log (entries.Place chunk range mode))
    ∙ ap (λ (o : Option Slot). option_map placed_of o) (find-append_none (is_of chunk) (slots_of log) (s ∷ []) (none-slot (find (is_of chunk) (slots_of log)) none) ∙ find-self s)
