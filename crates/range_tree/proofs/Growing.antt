-- Logs with one entry more.
use Rattle.std.proofs.Common.{◌≡◌, ◌∙◌, ap, refl, ℕ, zero, suc, ◌+◌, ◌<◌, ◌&&◌, Bool, true, List, [], ◌∷◌, ◌++◌, length, map, take, drop, set, get_or, arith}
use Rattle.std.proofs.lemmas.Bool.{and_parts}
use Rattle.page_map.specs.declared.ranges.LogEntry.{LogEntry}
use Rattle.page_map.specs.Logs.{Slot, next_slots, slots_from, slots_of, may_follow, sound_from, sound}

slots_from-append : (n m : ℕ) (slots : List Slot) (log : List LogEntry) (e : LogEntry) → m ≡ n + length log → slots_from n slots (log ++ e ∷ []) ≡ next_slots m (slots_from n slots log) e
unfolding slots_from
slots_from-append n m slots [] e is = ap (λ (k : ℕ). next_slots k slots e) (omega arith)
slots_from-append n m slots (x ∷ log) e is = slots_from-append (n + 1) m (next_slots n slots x) log e (omega arith)

-- what is placed after one entry more
pub slots_of-append : (log : List LogEntry) (e : LogEntry) → slots_of (log ++ e ∷ []) ≡ next_slots (length log) (slots_of log) e
unfolding slots_of
slots_of-append log e = slots_from-append 0 (length log) [] log e (omega arith)

both : (a b : Bool) → a ≡ true → b ≡ true → (a && b) ≡ true
both a b p q = grind arith

sound_from-append : (ranges n : ℕ) (slots : List Slot) (log : List LogEntry) (e : LogEntry) → sound_from ranges n slots log ≡ true → may_follow ranges (slots_from n slots log) e ≡ true → sound_from ranges n slots (log ++ e ∷ []) ≡ true
unfolding slots_from sound_from
sound_from-append ranges n slots [] e was may = both (may_follow ranges slots e) true may refl
sound_from-append ranges n slots (x ∷ log) e was may = let p = and_parts (may_follow ranges slots x) (sound_from ranges (n + 1) (next_slots n slots x) log) was in
    both (may_follow ranges slots x) (sound_from ranges (n + 1) (next_slots n slots x) (log ++ e ∷ [])) p.0 (sound_from-append ranges (n + 1) (next_slots n slots x) log e p.1 may)

-- a log stays sound with an entry that may follow it
pub sound-append : (ranges : ℕ) (log : List LogEntry) (e : LogEntry) → sound ranges log ≡ true → may_follow ranges (slots_of log) e ≡ true → sound ranges (log ++ e ∷ []) ≡ true
unfolding sound slots_of
sound-append ranges log e was may = sound_from-append ranges 0 [] log e was may

set-at : {X : Type 0} (f : X → X) (xs : List X) (i : ℕ) (d : X) → i < length xs → set (map f (take i xs) ++ drop i xs) i (f (get_or (map f (take i xs) ++ drop i xs) i d)) ≡ map f (take (suc i) xs) ++ drop (suc i) xs
set-at f [] i d lo = absurd (omega arith)
set-at f (x ∷ xs) zero d lo = refl
set-at f (x ∷ xs) (suc i) d lo = ap (λ ys. f x ∷ ys) (set-at f xs i d (omega arith))

-- one element more of a list that is changed from the front
pub set-mapped : {X : Type 0} (f : X → X) (xs ys : List X) (i : ℕ) (x : X) → i < length xs → ys ≡ map f (take i xs) ++ drop i xs → x ≡ get_or ys i x → set ys i (f x) ≡ map f (take (i + 1) xs) ++ drop (i + 1) xs
set-mapped f xs ys i x lo is same =
    ap (λ z. set ys i (f z)) same ∙ (ap (λ zs. set zs i (f (get_or zs i x))) is ∙ (set-at f xs i x lo ∙ (let e : suc i ≡ i + 1 = omega arith in ap (λ (n : ℕ). map f (take n xs) ++ drop n xs) e)))
