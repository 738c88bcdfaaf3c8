-- What is live at a sound log's end is placed there.
use Rattle.std.proofs.Common.{◌≡◌, ◌∙◌, ap, sym, refl, subst, ℕ, ◌+◌, ◌<◌, ◌==◌, ◌&&◌, ◌||◌, not, Bool, true, false, nat_lt, is_none, cond, List, [], ◌∷◌, ◌++◌, length, map, filter, slice_get, Option, Some, None, option_map, ⊎_elim, arith, length-append, append_assoc, eq-eqb}
use Rattle.std.specs.List.{list_any, find}
use Rattle.std.proofs.lemmas.Bool.{and_parts}
use Rattle.std.proofs.lemmas.List.{append-nil}
use Rattle.page_map.specs.declared.pages.Mode.{Mode}
use Rattle.page_map.specs.declared.ranges.LogEntry.{LogEntry}
use Rattle.page_map.specs.declared.ranges.LogEntry.TheVariants as entries
use Rattle.page_map.specs.Logs.{Slot, live, removes, between, is_of, is_in, upgraded, next_slots, slots_from, slots_of, may_follow, sound_from, sound, placed_at, placed_of}
use Rattle.range_tree.proofs.Finds.{find-append_some, find-append_none, find-filter}
use Rattle.window_core.specs.Laws.{IsPlacedBy}
use Rattle.window_core.proofs.Places.{at_end, in_range}
use Rattle.window_core.proofs.Living.{Lasts, live_lasts, between_more, any_more}
use Rattle.window_core.proofs.Placing.{find-map_option}

-- the slots have what entry k placed
pub record HasSlot (slots : List Slot) (k c r : ℕ) : Type 0 where
  pub slot : Slot
  pub found : find (is_of c) slots ≡ Some slot
  pub entry : slot.entry ≡ k
  pub range : slot.range ≡ r

abbrev HasAll : List LogEntry → List Slot → Type 0
HasAll log slots = (k c r : ℕ) (first : Mode) → Lasts log k (length log) c r first → HasSlot slots k c r

neither : (a b : Bool) → (a || b) ≡ false → (a ≡ false) × (b ≡ false)
neither false false e = (refl, refl)
neither false true e = absurd (cc)
neither true b e = absurd (cc)

-- what lasts to the new length is the new place, or lasted and is not removed
lasts_back : (log : List LogEntry) (e : LogEntry) (k c r : ℕ) (first : Mode) → k < length log → Lasts (log ++ e ∷ []) k (length (log ++ e ∷ [])) c r first → Lasts log k (length log) c r first × (removes r e ≡ false)
lasts_back log e k c r first near l = let both = neither (list_any (removes r) (between log k (length log))) (removes r e) (sym (ap (list_any (removes r)) (between_more log e k near) ∙ any_more (removes r) (between log k (length log)) e) ∙ l.kept) in
    (record { before = near; within = omega arith; place = ⊎_elim (λ a. a) (λ a. let z = a.0 in absurd (omega arith)) (at_end log e (entries.Place c r first) k l.place); kept = both.0 }, both.1)

none_is : (o : Option Slot) → is_none o ≡ true → o ≡ None
none_is None e = refl
none_is (Some s) e = absurd (cc)

chunk_free : (ranges : ℕ) (slots : List Slot) (c r : ℕ) (m : Mode) → may_follow ranges slots (entries.Place c r m) ≡ true → find (is_of c) slots ≡ None
unfolding may_follow
chunk_free ranges slots c r m may = none_is (find (is_of c) slots) (third (nat_lt c 32) (nat_lt r ranges) (is_none (find (is_of c) slots)) (is_none (find (is_in r) slots)) may)
  where
    third : (a b c d : Bool) → (a && b && c && d) ≡ true → c ≡ true
    third true true true d e = refl
    third true true false d e = absurd (cc)
    third true false c d e = absurd (cc)
    third false b c d e = absurd (cc)

has_placed : (ranges : ℕ) (log : List LogEntry) (slots : List Slot) (c' r' : ℕ) (m : Mode) → HasAll log slots → find (is_of c') slots ≡ None → HasAll (log ++ entries.Place c' r' m ∷ []) (slots ++ record { chunk = c'; range = r'; mode = m; entry = length log } ∷ [])
has_placed ranges log slots c' r' m all free k c r first l = let new : Slot = record { chunk = c'; range = r'; mode = m; entry = length log } in ⊎_elim
    (λ a. let was = all k c r first (lasts_back log (entries.Place c' r' m) k c r first (in_range log k (entries.Place c r first) a) l).0 in record { slot = was.slot; found = find-append_some (is_of c) slots (new ∷ []) was.slot was.found; entry = was.entry; range = was.range })
    (λ a. let e = a.1 in let chunk : c' ≡ c = cc in let range : r' ≡ r = cc in record {
      slot = new;
      found = ap (λ (n : ℕ). find (is_of n) (slots ++ new ∷ [])) (sym chunk) ∙ (find-append_none (is_of c') slots (new ∷ []) free ∙ ap (λ (b : Bool). cond b (Some new) None) (eq-eqb c' c' refl));
      entry = sym a.0;
      range = range;
    })
    (at_end log (entries.Place c' r' m) (entries.Place c r first) k l.place)

near_of : (log : List LogEntry) (e x : LogEntry) (k : ℕ) → (e ≡ x → ⊥) → slice_get (log ++ e ∷ []) k ≡ Some x → k < length log
near_of log e x k ne at = ⊎_elim (λ a. in_range log k x a) (λ a. absurd (ne a.1)) (at_end log e x k at)

no_upgrade : (r c r' : ℕ) (m : Mode) → entries.Upgrade r ≡ entries.Place c r' m → ⊥
no_upgrade r c r' m e = cc

no_removal : (r c r' : ℕ) (m : Mode) → entries.Remove r ≡ entries.Place c r' m → ⊥
no_removal r c r' m e = cc

has_upgraded : (log : List LogEntry) (slots : List Slot) (r' : ℕ) → HasAll log slots → HasAll (log ++ entries.Upgrade r' ∷ []) (map (upgraded r') slots)
has_upgraded log slots r' all k c r first l = let was = all k c r first (lasts_back log (entries.Upgrade r') k c r first (near_of log (entries.Upgrade r') (entries.Place c r first) k (no_upgrade r' c r first) l.place) l).0 in
    record { slot = upgraded r' was.slot; found = find-map_option (is_of c) (upgraded r') (λ s. refl) slots ∙ ap (λ (o : Option Slot). option_map (upgraded r') o) was.found; entry = was.entry; range = was.range }

kept_slot : (a b : ℕ) → (b == a) ≡ false → not (a == b) ≡ true
kept_slot a b e = grind arith

has_left : (log : List LogEntry) (slots : List Slot) (r' : ℕ) → HasAll log slots → HasAll (log ++ entries.Remove r' ∷ []) (filter (λ s. not (is_in r' s)) slots)
unfolding removes
has_left log slots r' all k c r first l = let back = lasts_back log (entries.Remove r') k c r first (near_of log (entries.Remove r') (entries.Place c r first) k (no_removal r' c r first) l.place) l in let was = all k c r first back.0 in
    record { slot = was.slot; found = find-filter (is_of c) (λ s. not (is_in r' s)) slots was.slot was.found (ap (λ (n : ℕ). not (n == r')) was.range ∙ kept_slot r r' back.1); entry = was.entry; range = was.range }

has_next : (ranges : ℕ) (log : List LogEntry) (e : LogEntry) (slots : List Slot) → may_follow ranges slots e ≡ true → HasAll log slots → HasAll (log ++ e ∷ []) (next_slots (length log) slots e)
unfolding next_slots
has_next ranges log (entries.Place c r m) slots may all = has_placed ranges log slots c r m all (chunk_free ranges slots c r m may)
has_next ranges log (entries.Upgrade r) slots may all = has_upgraded log slots r all
has_next ranges log (entries.Remove r) slots may all = has_left log slots r all

has_from : (ranges : ℕ) (front log : List LogEntry) (slots : List Slot) → sound_from ranges (length front) slots log ≡ true → HasAll front slots → HasAll (front ++ log) (slots_from (length front) slots log)
unfolding slots_from sound_from
has_from ranges front [] slots is all = subst (λ (l : List LogEntry). HasAll l slots) (sym (append-nil front)) all
has_from ranges front (e ∷ log) slots is all = let p = and_parts (may_follow ranges slots e) (sound_from ranges (length front + 1) (next_slots (length front) slots e) log) is in
    subst (λ (x : List LogEntry × ℕ). HasAll x.0 (slots_from x.1 (next_slots (length front) slots e) log)) (λ i. (append_assoc front (e ∷ []) log i, length-append front (e ∷ []) i))
    (has_from ranges (front ++ e ∷ []) log (next_slots (length front) slots e) (subst (λ (n : ℕ). sound_from ranges n (next_slots (length front) slots e) log ≡ true) (sym (length-append front (e ∷ []))) p.1) (has_next ranges front e slots p.0 all))

nothing_lasts : (k c r : ℕ) (first : Mode) → Lasts [] k 0 c r first → ⊥
nothing_lasts k c r first l = let b = l.before in absurd (omega arith)

has_of : (ranges : ℕ) (log : List LogEntry) → sound ranges log ≡ true → HasAll log (slots_of log)
unfolding sound slots_of
has_of ranges log is = has_from ranges [] log [] is (λ k c r first l. absurd (nothing_lasts k c r first l))

placed_slot : (log : List LogEntry) (k c r : ℕ) → HasSlot (slots_of log) k c r → IsPlacedBy log k c r
unfolding placed_at
placed_slot log k c r h = (placed_of h.slot, ap (λ (o : Option Slot). option_map placed_of o) h.found, h.entry, h.range)

pub live_placed : (ranges : ℕ) (log : List LogEntry) (k c r : ℕ) (first : Mode) → sound ranges log ≡ true → slice_get log k ≡ Some (entries.Place c r first) → live log k (length log) ≡ true → IsPlacedBy log k c r
live_placed ranges log k c r first is at lives = placed_slot log k c r (has_of ranges log is k c r first (live_lasts log k (length log) c r first at lives))
