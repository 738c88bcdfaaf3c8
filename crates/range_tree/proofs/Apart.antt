-- What is placed after a sound log: no chunk and no range twice.
use Rattle.std.proofs.Common.{◌≡◌, ◌∙◌, refl, ℕ, ◌+◌, ◌==◌, ◌&&◌, Bool, true, false, not, nat_lt, is_none, cond, List, [], ◌∷◌, ◌++◌, map, filter, Option, Some, None, inl, inr, arith}
use Rattle.std.specs.List.{find, AllByRecursion}
use Rattle.std.proofs.lemmas.Bool.{cases_Bool, and_parts}
use Rattle.page_map.specs.declared.ranges.LogEntry.{LogEntry}
use Rattle.page_map.specs.declared.ranges.LogEntry.TheVariants as entries
use Rattle.page_map.specs.Logs.{Slot, is_of, is_in, upgraded, next_slots, slots_from, slots_of, may_follow, sound_from, sound}
use Rattle.range_tree.proofs.Finds.{find-append_some, find-append_none, find-map, find-filter}

-- the slot is the first of its chunk, and the first in its range
pub record IsApart (slots : List Slot) (s : Slot) : Type 0 where
  pub chunk : find (is_of s.chunk) slots ≡ Some s
  pub range : find (is_in s.range) slots ≡ Some s

abbrev pub Apart : List Slot → Type 0
Apart slots = AllByRecursion (IsApart slots) slots

pub all_append : (P : Slot → Type 0) (xs : List Slot) (y : Slot) → AllByRecursion P xs → P y → AllByRecursion P (xs ++ y ∷ [])
all_append P [] y all last = (last, tt)
all_append P (x ∷ xs) y all last = (all.0, all_append P xs y all.1 last)

pub all_mono : (P Q : Slot → Type 0) → ((s : Slot) → P s → Q s) → (xs : List Slot) → AllByRecursion P xs → AllByRecursion Q xs
all_mono P Q f [] all = tt
all_mono P Q f (x ∷ xs) all = (f x all.0, all_mono P Q f xs all.1)

pub all_map : (P Q : Slot → Type 0) (f : Slot → Slot) → ((s : Slot) → P s → Q (f s)) → (xs : List Slot) → AllByRecursion P xs → AllByRecursion Q (map f xs)
all_map P Q f g [] all = tt
all_map P Q f g (x ∷ xs) all = (g x all.0, all_map P Q f g xs all.1)

pub all_filter : (P Q : Slot → Type 0) (keep : Slot → Bool) → ((s : Slot) → keep s ≡ true → P s → Q s) → (xs : List Slot) → AllByRecursion P xs → AllByRecursion Q (filter keep xs)
all_filter P Q keep g [] all = tt
all_filter P Q keep g (x ∷ xs) all = elim (cases_Bool (keep x)) [
  | inl k ↦ rw k (g x k all.0, all_filter P Q keep g xs all.1)
  | inr k ↦ rw k (all_filter P Q keep g xs all.1)
]

self : (n : ℕ) → (n == n) ≡ true
self n = grind arith

first_self : (b : Bool) (s : Slot) → b ≡ true → cond b (Some s) None ≡ Some s
first_self true s e = refl
first_self false s e = absurd (cc)

-- a slot more, of a chunk and in a range that none has
pub apart_placed : (slots : List Slot) (s : Slot) → Apart slots → find (is_of s.chunk) slots ≡ None → find (is_in s.range) slots ≡ None → Apart (slots ++ s ∷ [])
apart_placed slots s all chunk range = all_append (IsApart (slots ++ s ∷ [])) slots s
    (all_mono (IsApart slots) (IsApart (slots ++ s ∷ [])) (λ x a. record { chunk = find-append_some (is_of x.chunk) slots (s ∷ []) x a.chunk; range = find-append_some (is_in x.range) slots (s ∷ []) x a.range }) slots all)
    (record {
      chunk = find-append_none (is_of s.chunk) slots (s ∷ []) chunk ∙ first_self (s.chunk == s.chunk) s (self s.chunk);
      range = find-append_none (is_in s.range) slots (s ∷ []) range ∙ first_self (s.range == s.range) s (self s.range);
    })

pub apart_upgraded : (range : ℕ) (slots : List Slot) → Apart slots → Apart (map (upgraded range) slots)
apart_upgraded range slots all = all_map (IsApart slots) (IsApart (map (upgraded range) slots)) (upgraded range)
    (λ x a. record {
      chunk = find-map (is_of x.chunk) (upgraded range) (is_of x.chunk) (λ y. refl) slots x a.chunk;
      range = find-map (is_in x.range) (upgraded range) (is_in x.range) (λ y. refl) slots x a.range;
    }) slots all

pub apart_removed : (range : ℕ) (slots : List Slot) → Apart slots → Apart (filter (λ s. not (is_in range s)) slots)
apart_removed range slots all = all_filter (IsApart slots) (IsApart (filter (λ s. not (is_in range s)) slots)) (λ s. not (is_in range s))
    (λ x k a. record {
      chunk = find-filter (is_of x.chunk) (λ s. not (is_in range s)) slots x a.chunk k;
      range = find-filter (is_in x.range) (λ s. not (is_in range s)) slots x a.range k;
    }) slots all

pub none_is : (o : Option Slot) → is_none o ≡ true → o ≡ None
none_is None e = refl
none_is (Some s) e = absurd (cc)

-- what a place needs
pub record MayPlace (ranges : ℕ) (slots : List Slot) (c r : ℕ) : Type 0 where
  pub chunk : nat_lt c 32 ≡ true
  pub range : nat_lt r ranges ≡ true
  pub free_chunk : is_none (find (is_of c) slots) ≡ true
  pub free_range : is_none (find (is_in r) slots) ≡ true

pub four : (a b c d : Bool) → (a && b && c && d) ≡ true → (c ≡ true) × (d ≡ true)
four true true true true e = (refl, refl)
four true true true false e = absurd (cc)
four true true false d e = absurd (cc)
four true false c d e = absurd (cc)
four false b c d e = absurd (cc)

apart_next : (ranges n : ℕ) (slots : List Slot) (e : LogEntry) → Apart slots → may_follow ranges slots e ≡ true → Apart (next_slots n slots e)
unfolding may_follow next_slots
apart_next ranges n slots (entries.Place c r m) all may = let f = four (nat_lt c 32) (nat_lt r ranges) (is_none (find (is_of c) slots)) (is_none (find (is_in r) slots)) may in
    apart_placed slots (record { chunk = c; range = r; mode = m; entry = n }) all (none_is (find (is_of c) slots) f.0) (none_is (find (is_in r) slots) f.1)
apart_next ranges n slots (entries.Upgrade r) all may = apart_upgraded r slots all
apart_next ranges n slots (entries.Remove r) all may = apart_removed r slots all

apart_from : (ranges n : ℕ) (slots : List Slot) (log : List LogEntry) → Apart slots → sound_from ranges n slots log ≡ true → Apart (slots_from n slots log)
unfolding slots_from sound_from
apart_from ranges n slots [] all sound = all
apart_from ranges n slots (e ∷ log) all sound = let p = and_parts (may_follow ranges slots e) (sound_from ranges (n + 1) (next_slots n slots e) log) sound in
    apart_from ranges (n + 1) (next_slots n slots e) log (apart_next ranges n slots e all p.0) p.1

pub apart_of : (ranges : ℕ) (log : List LogEntry) → sound ranges log ≡ true → Apart (slots_of log)
unfolding sound slots_of
apart_of ranges log is = apart_from ranges 0 [] log tt is
