-- What is placed in a range after one entry more, and what a range's slot tells of its chunk.
use Rattle.std.proofs.Common.{◌≡◌, ◌≢◌, ◌∙◌, ap, sym, refl, ℕ, Bool, true, false, not, cond, List, [], ◌∷◌, ◌++◌, length, map, filter, option_map, Option, Some, None, arith, inl, inr}
use Rattle.std.specs.List.{find}
use Rattle.std.proofs.lemmas.Bool.{cases_Bool}
use Rattle.std.proofs.lemmas.Grind.{common_steps}
use Rattle.page_map.specs.declared.pages.Mode.{Mode}
use Rattle.page_map.specs.declared.ranges.LogEntry.{LogEntry}
use Rattle.page_map.specs.declared.ranges.LogEntry.TheVariants as entries
use Rattle.page_map.specs.declared.ranges.Placed.{Placed}
use Rattle.page_map.specs.Logs.{Slot, is_in, is_of, upgraded, next_slots, slots_of, slot_in, placed_at, placed_of, sound}
use Rattle.range_tree.proofs.Finds.{find-append_some, find-append_none, find-holds}
use Rattle.range_tree.proofs.Growing.{slots_of-append}
use Rattle.range_tree.proofs.Apart.{IsApart, apart_of}

-- ---- removals

find-left_same : (r : ℕ) (slots : List Slot) → find (is_in r) (filter (λ s. not (is_in r s)) slots) ≡ None
find-left_same r [] = refl
find-left_same r (s ∷ slots) = elim (cases_Bool (is_in r s)) [
  | inl hit ↦ rw hit (find-left_same r slots)
  | inr miss ↦ rw miss (rw miss (find-left_same r slots))
]

find-left_other : (r q : ℕ) (slots : List Slot) → q ≢ r → find (is_in q) (filter (λ s. not (is_in r s)) slots) ≡ find (is_in q) slots
find-left_other r q [] ne = refl
find-left_other r q (s ∷ slots) ne = elim (cases_Bool (is_in r s)) [
  | inl hit ↦
      let other : is_in q s ≡ false = grind (arith, common_steps, hit, ne) in
      rw hit (rw other (find-left_other r q slots ne))
  | inr miss ↦ rw miss (ap (cond (is_in q s) (Some s)) (find-left_other r q slots ne))
]

pub slot_in-remove : (log : List LogEntry) (r : ℕ) → slot_in (log ++ entries.Remove r ∷ []) r ≡ None
unfolding slot_in next_slots
slot_in-remove log r = ap (find (is_in r)) (slots_of-append log (entries.Remove r)) ∙ find-left_same r (slots_of log)

pub slot_in-remove_other : (log : List LogEntry) (r q : ℕ) → q ≢ r → slot_in (log ++ entries.Remove r ∷ []) q ≡ slot_in log q
unfolding slot_in next_slots
slot_in-remove_other log r q ne = ap (find (is_in q)) (slots_of-append log (entries.Remove r)) ∙ find-left_other r q (slots_of log) ne

-- ---- places

one-same : (s : Slot) → find (is_in s.range) (s ∷ []) ≡ Some s
one-same s = let same : is_in s.range s ≡ true = grind (arith, common_steps) in rw same refl

one-other : (s : Slot) (q : ℕ) → q ≢ s.range → find (is_in q) (s ∷ []) ≡ None
one-other s q ne = let other : is_in q s ≡ false = grind (arith, common_steps, ne) in rw other refl

end-other : (s : Slot) (q : ℕ) (slots : List Slot) (o : Option Slot) → q ≢ s.range → find (is_in q) slots ≡ o → find (is_in q) (slots ++ s ∷ []) ≡ o
end-other s q slots None ne e = find-append_none (is_in q) slots (s ∷ []) e ∙ one-other s q ne
end-other s q slots (Some t) ne e = find-append_some (is_in q) slots (s ∷ []) t e

pub slot_in-place : (log : List LogEntry) (c r : ℕ) (m : Mode) → slot_in log r ≡ None → slot_in (log ++ entries.Place c r m ∷ []) r ≡ Some (record { chunk = c; range = r; mode = m; entry = length log })
unfolding slot_in next_slots
slot_in-place log c r m free =
    let s : Slot = record { chunk = c; range = r; mode = m; entry = length log } in
    ap (find (is_in r)) (slots_of-append log (entries.Place c r m)) ∙ find-append_none (is_in r) (slots_of log) (s ∷ []) free ∙ one-same s

pub slot_in-place_other : (log : List LogEntry) (c r q : ℕ) (m : Mode) → q ≢ r → slot_in (log ++ entries.Place c r m ∷ []) q ≡ slot_in log q
unfolding slot_in next_slots
slot_in-place_other log c r q m ne =
    let s : Slot = record { chunk = c; range = r; mode = m; entry = length log } in
    ap (find (is_in q)) (slots_of-append log (entries.Place c r m)) ∙ end-other s q (slots_of log) (find (is_in q) (slots_of log)) ne refl

-- ---- upgrades

raised-cond : (b : Bool) (r : ℕ) (s : Slot) (o : Option Slot) → cond b (Some (upgraded r s)) (option_map (upgraded r) o) ≡ option_map (upgraded r) (cond b (Some s) o)
raised-cond true r s o = refl
raised-cond false r s o = refl

find-raised : (r q : ℕ) (slots : List Slot) → find (is_in q) (map (upgraded r) slots) ≡ option_map (upgraded r) (find (is_in q) slots)
find-raised r q [] = refl
find-raised r q (s ∷ slots) = ap (cond (is_in q s) (Some (upgraded r s))) (find-raised r q slots) ∙ raised-cond (is_in q s) r s (find (is_in q) slots)

pub slot_in-upgrade : (log : List LogEntry) (r q : ℕ) → slot_in (log ++ entries.Upgrade r ∷ []) q ≡ option_map (upgraded r) (slot_in log q)
unfolding slot_in next_slots
slot_in-upgrade log r q = ap (find (is_in q)) (slots_of-append log (entries.Upgrade r)) ∙ find-raised r q (slots_of log)

-- ---- a slot's chunk and its range

-- what is in a range is what is found for its chunk
pub placed_at-slot : (ranges : ℕ) (log : List LogEntry) (r : ℕ) (s : Slot) → sound ranges log ≡ true → slot_in log r ≡ Some s → placed_at log s.chunk ≡ Some (placed_of s)
unfolding slot_in placed_at
placed_at-slot ranges log r s is found =
    let h = find-holds (is_in r) (IsApart (slots_of log)) (slots_of log) s found (apart_of ranges log is) in
    ap (λ (o : Option Slot). option_map placed_of o) h.0.chunk

-- a slot of a place
abbrev pub slot_placed : ℕ → Placed → Slot
slot_placed chunk p = record { chunk = chunk; range = p.range; mode = p.mode; entry = p.entry }

-- what is found for a chunk is what is in its range
pub slot_in-placed : (ranges : ℕ) (log : List LogEntry) (chunk : ℕ) (p : Placed) → sound ranges log ≡ true → placed_at log chunk ≡ Some p → slot_in log p.range ≡ Some (slot_placed chunk p)
unfolding slot_in placed_at
slot_in-placed ranges log chunk p is found = go (find (is_of chunk) (slots_of log)) refl found
  where
    go : (o : Option Slot) → find (is_of chunk) (slots_of log) ≡ o → option_map placed_of o ≡ Some p → find (is_in p.range) (slots_of log) ≡ Some (slot_placed chunk p)
    go None at e = absurd (cc)
    go (Some s) at e =
        let h = find-holds (is_of chunk) (IsApart (slots_of log)) (slots_of log) s at (apart_of ranges log is) in
        let same : placed_of s ≡ p = cc in
        let r : s.range ≡ p.range = ap (λ (x : Placed). x.range) same in
        let c : s.chunk ≡ chunk = grind (arith, common_steps, h.1) in
        ap (λ (n : ℕ). find (is_in n) (slots_of log)) (sym r) ∙ (h.0.range ∙ (ap (λ (n : ℕ). Some (slot_placed n (placed_of s))) c ∙ ap (λ (x : Placed). Some (slot_placed chunk x)) same))
