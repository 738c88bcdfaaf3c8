-- Room in a log for what is still to come.
use Rattle.std.proofs.Common.{◌≡◌, ◌∙◌, ap, ℕ, ◌+◌, ◌*◌, ◌≤◌, ◌==◌, List, [], ◌∷◌, length, map, filter, cond, Bool, true, false, Some, inl, inr, arith}
use Rattle.std.specs.List.{find}
use Rattle.std.proofs.lemmas.Bool.{cases_Bool}
use Rattle.std.proofs.lemmas.List.Sums.{sum_by-cons}
use Rattle.page_map.specs.declared.pages.Mode.TheVariants as modes
use Rattle.page_map.specs.Logs.{Slot, is_writable, is_of}
use Rattle.range_tree.specs.declared.slots.Spot.{Spot}
use Rattle.range_tree.specs.Trees.{slot_of, slots_in, raised, is_elsewhere, need, needed}

low : (b : Bool) → 1 ≤ cond b 1 2
low true = omega arith
low false = omega arith

high : (b : Bool) → cond b 1 2 ≤ 2
high true = omega arith
high false = omega arith

need_raised : (range : ℕ) (s : Spot) → need (raised range s) ≤ need s
unfolding is_writable
need_raised range s = go (s.range == range)
  where
    go : (b : Bool) → cond (is_writable (cond b modes.W s.mode)) 1 2 ≤ cond (is_writable s.mode) 1 2
    go true = low (is_writable s.mode)
    go false = omega arith

-- an upgrade and a removal leave no more to come
needed_raised : (range : ℕ) (spots : List Spot) → needed (map (raised range) spots) ≤ needed spots
needed_raised range [] = omega arith
needed_raised range (s ∷ spots) = let a = need_raised range s in let b = needed_raised range spots in let c = sum_by-cons need s spots in let d = sum_by-cons need (raised range s) (map (raised range) spots) in omega arith

needed_left : (range : ℕ) (spots : List Spot) → needed (filter (is_elsewhere range) spots) ≤ needed spots
needed_left range [] = omega arith
needed_left range (s ∷ spots) = let b = needed_left range spots in let c = sum_by-cons need s spots in elim (cases_Bool (is_elsewhere range s)) [
  | inl k ↦ rw k (let d = sum_by-cons need s (filter (is_elsewhere range) spots) in omega arith)
  | inr k ↦ rw k (omega arith)
]

same_raised : (x s : Spot) → slot_of x ≡ slot_of s → is_writable s.mode ≡ false → need (raised s.range x) + 1 ≤ need x
unfolding is_writable
same_raised x s same low = let r : x.range ≡ s.range = ap (λ (z : Slot). z.range) same in let m : is_writable x.mode ≡ false = ap (λ (z : Slot). is_writable z.mode) same ∙ low in
    let t : (x.range == s.range) ≡ true = (grind arith) in rw (t, m) (omega arith)

-- of a chunk that is found
pub needed_after_raised : (spots : List Spot) (c : ℕ) (s : Spot) → Some (slot_of s) ≡ find (is_of c) (slots_in spots) → is_writable s.mode ≡ false → needed (map (raised s.range) spots) + 1 ≤ needed spots
needed_after_raised [] c s found low = absurd (cc)
needed_after_raised (x ∷ spots) c s found low = let e = sum_by-cons need x spots in let d = sum_by-cons need (raised s.range x) (map (raised s.range) spots) in elim (cases_Bool (x.chunk == c)) [
  | inl k ↦
      let same : slot_of x ≡ slot_of s = (let h : Some (slot_of s) ≡ Some (slot_of x) = rw k at found in cc) in
      let a = same_raised x s same low in let b = needed_raised s.range spots in omega arith
  | inr k ↦
      let a = need_raised s.range x in let b = needed_after_raised spots c s (rw k at found) low in omega arith
]

pub needed_after_left : (spots : List Spot) (c : ℕ) (s : Spot) → Some (slot_of s) ≡ find (is_of c) (slots_in spots) → needed (filter (is_elsewhere s.range) spots) + 1 ≤ needed spots
needed_after_left [] c s found = absurd (cc)
needed_after_left (x ∷ spots) c s found = let e = sum_by-cons need x spots in elim (cases_Bool (x.chunk == c)) [
  | inl k ↦
      let same_slot : slot_of x ≡ slot_of s = (let h : Some (slot_of s) ≡ Some (slot_of x) = rw k at found in cc) in
      let same : x.range ≡ s.range = ap (λ (z : Slot). z.range) same_slot in
      let out : is_elsewhere s.range x ≡ false = (grind arith) in
      let b = needed_left s.range spots in let a = low (is_writable x.mode) in rw out (omega arith)
  | inr k ↦
      let b = needed_after_left spots c s (rw k at found) in elim (cases_Bool (is_elsewhere s.range x)) [
        | inl t ↦ rw t (let d = sum_by-cons need x (filter (is_elsewhere s.range) spots) in omega arith)
        | inr t ↦ rw t (omega arith)
      ]
]

pub needed_small : (spots : List Spot) → needed spots ≤ 2 * length spots
needed_small [] = omega arith
needed_small (s ∷ spots) = let a = high (is_writable s.mode) in let b = needed_small spots in let c = sum_by-cons need s spots in omega arith
