-- Slots that agree with a log, and the log with one entry more.
use Rattle.std.proofs.Common.{◌≡◌, ◌∙◌, ap, sym, refl, subst, ℕ, ◌<◌, ◌&&◌, ◌||◌, Bool, true, false, not, nat_lt, is_none, is_some, List, [], ◌∷◌, ◌++◌, length, map, filter, Option, Some, None, option_map, IsSome, inl, inr, arith}
use Rattle.std.specs.List.{find, list_any}
use Rattle.std.proofs.lemmas.Bool.{cases_Bool, lt-ltb}
use Rattle.page_map.specs.declared.pages.Mode.{Mode}
use Rattle.page_map.specs.declared.ranges.LogEntry.{LogEntry}
use Rattle.page_map.specs.declared.ranges.LogEntry.TheVariants as entries
use Rattle.page_map.specs.declared.pages.Span.{Span}
use Rattle.page_map.specs.Board.{chunk_in, is_chunk_of}
use Rattle.page_map.specs.Logs.{Slot, is_of, is_in, is_writable, upgraded, next_slots, slots_from, slots_of, may_follow, may_upgrade, sound_from, sound, placed_at, slot_in, placed_of}
use Rattle.range_tree.specs.declared.slots.Spot.{Spot}
use Rattle.range_tree.specs.Trees.{slot_of, slots_in, is_span_of, raised, is_elsewhere, Agrees, KeepsSound, max_ranges}
use Rattle.range_tree.proofs.Finds.{find-holds}
use Rattle.range_tree.proofs.Growing.{slots_of-append, sound-append}
use Rattle.range_tree.proofs.Apart.{IsApart, apart_of}

-- the slots of spots
pub slots_raised : (range : ℕ) (spots : List Spot) → slots_in (map (raised range) spots) ≡ map (upgraded range) (slots_in spots)
slots_raised range [] = refl
slots_raised range (s ∷ spots) = ap (λ (xs : List Slot). upgraded range (slot_of s) ∷ xs) (slots_raised range spots)

pub slots_left : (range : ℕ) (spots : List Spot) → slots_in (filter (is_elsewhere range) spots) ≡ filter (λ s. not (is_in range s)) (slots_in spots)
slots_left range [] = refl
slots_left range (s ∷ spots) = elim (cases_Bool (is_elsewhere range s)) [
  | inl k ↦ rw k (ap (λ (xs : List Slot). slot_of s ∷ xs) (slots_left range spots))
  | inr k ↦ rw k (slots_left range spots)
]

-- a span is that of a spot exactly where it is that of its slot
any_slot : (span : Span) (file : ℕ) (spots : List Spot) → list_any (is_span_of span file) spots ≡ list_any (is_chunk_of span) (map (chunk_in file) (slots_in spots))
any_slot span file [] = refl
any_slot span file (s ∷ spots) = ap (λ b. is_span_of span file s || b) (any_slot span file spots)

pub any_span : (span : Span) (file : ℕ) (spots : List Spot) (log : List LogEntry) → Agrees (slots_in spots) log → list_any (is_span_of span file) spots ≡ list_any (is_chunk_of span) (map (chunk_in file) (slots_of log))
any_span span file spots log a = any_slot span file spots ∙ ap (λ (xs : List Slot). list_any (is_chunk_of span) (map (chunk_in file) xs)) a.placed

pub agrees_new : Agrees [] []
unfolding slots_of slots_from sound sound_from
agrees_new = record { placed = refl; sound = refl }

-- an entry that may follow
pub agrees_next : (slots : List Slot) (log : List LogEntry) (e : LogEntry) → Agrees slots log → may_follow max_ranges (slots_of log) e ≡ true → Agrees (next_slots (length log) slots e) (log ++ e ∷ [])
agrees_next slots log e a may = record {
  placed = ap (λ (xs : List Slot). next_slots (length log) xs e) a.placed ∙ sym (slots_of-append log e);
  sound = sound-append max_ranges log e a.sound may;
}

none_there : (o : Option Slot) → o ≡ None → is_none o ≡ true
none_there o e = ap (λ (x : Option Slot). is_none x) e

no_slot : (o : Option Slot) → option_map placed_of o ≡ None → o ≡ None
no_slot None e = refl
no_slot (Some s) e = absurd (cc)

four : (a b c d : Bool) → a ≡ true → b ≡ true → c ≡ true → d ≡ true → (a && b && c && d) ≡ true
four a b c d p q r s = grind arith

-- a chunk that isn't placed may come into a range that isn't
pub may_place : (ranges : ℕ) (log : List LogEntry) (c r : ℕ) (m : Mode) → c < 32 → r < ranges → placed_at log c ≡ None → slot_in log r ≡ None → may_follow ranges (slots_of log) (entries.Place c r m) ≡ true
unfolding may_follow placed_at slot_in
may_place ranges log c r m lo low free empty = four (nat_lt c 32) (nat_lt r ranges) (is_none (find (is_of c) (slots_of log))) (is_none (find (is_in r) (slots_of log)))
    (lt-ltb c 32 lo) (lt-ltb r ranges low) (none_there (find (is_of c) (slots_of log)) (no_slot (find (is_of c) (slots_of log)) free)) (none_there (find (is_in r) (slots_of log)) empty)

-- what is found for a chunk is found in its range
pub found_in_range : (ranges : ℕ) (log : List LogEntry) (c : ℕ) (s : Slot) → sound ranges log ≡ true → find (is_of c) (slots_of log) ≡ Some s → find (is_in s.range) (slots_of log) ≡ Some s
found_in_range ranges log c s is found = (find-holds (is_of c) (IsApart (slots_of log)) (slots_of log) s found (apart_of ranges log is)).0.range

pub may_remove : (ranges : ℕ) (log : List LogEntry) (c : ℕ) (s : Slot) → sound max_ranges log ≡ true → find (is_of c) (slots_of log) ≡ Some s → may_follow ranges (slots_of log) (entries.Remove s.range) ≡ true
unfolding may_follow
may_remove ranges log c s is found = ap (λ (x : Option Slot). is_some x) (found_in_range max_ranges log c s is found)

pub may_raise : (ranges : ℕ) (log : List LogEntry) (c : ℕ) (s : Slot) → sound max_ranges log ≡ true → find (is_of c) (slots_of log) ≡ Some s → is_writable s.mode ≡ false → may_follow ranges (slots_of log) (entries.Upgrade s.range) ≡ true
unfolding may_follow may_upgrade
may_raise ranges log c s is found low = ap (λ (x : Option Slot). may_upgrade x) (found_in_range max_ranges log c s is found) ∙ ap not low

slots_pushed : (spots : List Spot) (s : Spot) → slots_in (spots ++ s ∷ []) ≡ slots_in spots ++ slot_of s ∷ []
slots_pushed [] s = refl
slots_pushed (x ∷ spots) s = ap (λ (xs : List Slot). slot_of x ∷ xs) (slots_pushed spots s)

-- ---- what the calls of a tree make of its parts

next_placed : (n : ℕ) (slots : List Slot) (c r : ℕ) (m : Mode) → next_slots n slots (entries.Place c r m) ≡ slots ++ record { chunk = c; range = r; mode = m; entry = n } ∷ []
unfolding next_slots
next_placed n slots c r m = refl

next_raised : (n : ℕ) (slots : List Slot) (r : ℕ) → next_slots n slots (entries.Upgrade r) ≡ map (upgraded r) slots
unfolding next_slots
next_raised n slots r = refl

next_left : (n : ℕ) (slots : List Slot) (r : ℕ) → next_slots n slots (entries.Remove r) ≡ filter (λ s. not (is_in r s)) slots
unfolding next_slots
next_left n slots r = refl

pub agrees_placed : (spots more : List Spot) (log longer : List LogEntry) (s : Spot) → Agrees (slots_in spots) log → s.chunk < 32 → s.range < max_ranges → placed_at log s.chunk ≡ None → slot_in log s.range ≡ None → s.entry ≡ length log
    → more ≡ spots ++ s ∷ [] → longer ≡ log ++ entries.Place s.chunk s.range s.mode ∷ [] → Agrees (slots_in more) longer
agrees_placed spots more log longer s a lo low free empty at more_is longer_is =
    let e : LogEntry = entries.Place s.chunk s.range s.mode in
    let next = agrees_next (slots_in spots) log e a (may_place max_ranges log s.chunk s.range s.mode lo low free empty) in
    let slots : next_slots (length log) (slots_in spots) e ≡ slots_in more = (next_placed (length log) (slots_in spots) s.chunk s.range s.mode ∙ (ap (λ (n : ℕ). slots_in spots ++ record { chunk = s.chunk; range = s.range; mode = s.mode; entry = n } ∷ []) (sym at) ∙ (sym (slots_pushed spots s) ∙ ap slots_in (sym more_is)))) in
    subst (λ (x : List Slot × List LogEntry). Agrees x.0 x.1) (λ i. (slots i, sym longer_is i)) next

pub keeps_placed : (ranges : ℕ) (log longer : List LogEntry) (c r : ℕ) (m : Mode) → c < 32 → r < ranges → placed_at log c ≡ None → slot_in log r ≡ None → longer ≡ log ++ entries.Place c r m ∷ [] → KeepsSound ranges log longer
keeps_placed ranges log longer c r m lo low free empty is was = subst (λ (x : List LogEntry). sound ranges x ≡ true) (sym is) (sound-append ranges log (entries.Place c r m) was (may_place ranges log c r m lo low free empty))

-- a spot that was found for a chunk
pub record IsFound (spots : List Spot) (log : List LogEntry) (c : ℕ) (s : Spot) : Type 0 where
  pub agrees : Agrees (slots_in spots) log
  pub found : Some (slot_of s) ≡ find (is_of c) (slots_in spots)

found_after : (spots : List Spot) (log : List LogEntry) (c : ℕ) (s : Spot) → IsFound spots log c s → find (is_of c) (slots_of log) ≡ Some (slot_of s)
found_after spots log c s f = ap (λ (xs : List Slot). find (is_of c) xs) (sym f.agrees.placed) ∙ sym f.found

pub agrees_raised : (spots more : List Spot) (log longer : List LogEntry) (c : ℕ) (s : Spot) → IsFound spots log c s → is_writable s.mode ≡ false → slots_in more ≡ map (upgraded s.range) (slots_in spots) → longer ≡ log ++ entries.Upgrade s.range ∷ [] → Agrees (slots_in more) longer
agrees_raised spots more log longer c s f low more_is longer_is =
    let e : LogEntry = entries.Upgrade s.range in
    let next = agrees_next (slots_in spots) log e f.agrees (may_raise max_ranges log c (slot_of s) f.agrees.sound (found_after spots log c s f) low) in
    subst (λ (x : List Slot × List LogEntry). Agrees x.0 x.1) (λ i. ((next_raised (length log) (slots_in spots) s.range ∙ sym more_is) i, sym longer_is i)) next

pub keeps_raised : (ranges : ℕ) (spots : List Spot) (log longer : List LogEntry) (c : ℕ) (s : Spot) → IsFound spots log c s → is_writable s.mode ≡ false → longer ≡ log ++ entries.Upgrade s.range ∷ [] → KeepsSound ranges log longer
keeps_raised ranges spots log longer c s f low is was = subst (λ (x : List LogEntry). sound ranges x ≡ true) (sym is) (sound-append ranges log (entries.Upgrade s.range) was (may_raise ranges log c (slot_of s) f.agrees.sound (found_after spots log c s f) low))

pub agrees_left : (spots more : List Spot) (log longer : List LogEntry) (c : ℕ) (s : Spot) → IsFound spots log c s → slots_in more ≡ filter (λ x. not (is_in s.range x)) (slots_in spots) → longer ≡ log ++ entries.Remove s.range ∷ [] → Agrees (slots_in more) longer
agrees_left spots more log longer c s f more_is longer_is =
    let e : LogEntry = entries.Remove s.range in
    let next = agrees_next (slots_in spots) log e f.agrees (may_remove max_ranges log c (slot_of s) f.agrees.sound (found_after spots log c s f)) in
    subst (λ (x : List Slot × List LogEntry). Agrees x.0 x.1) (λ i. ((next_left (length log) (slots_in spots) s.range ∙ sym more_is) i, sym longer_is i)) next

pub keeps_left : (ranges : ℕ) (spots : List Spot) (log longer : List LogEntry) (c : ℕ) (s : Spot) → IsFound spots log c s → longer ≡ log ++ entries.Remove s.range ∷ [] → KeepsSound ranges log longer
keeps_left ranges spots log longer c s f is was = subst (λ (x : List LogEntry). sound ranges x ≡ true) (sym is) (sound-append ranges log (entries.Remove s.range) was (may_remove ranges log c (slot_of s) f.agrees.sound (found_after spots log c s f)))

-- where a chunk is placed, by what is found for it
pub placed_found : (spots : List Spot) (log : List LogEntry) (c : ℕ) (s : Spot) → IsFound spots log c s → placed_at log c ≡ Some (record { range = s.range; mode = s.mode; entry = s.entry })
unfolding placed_at
placed_found spots log c s f = ap (λ (o : Option Slot). option_map placed_of o) (found_after spots log c s f)

pub placed_nowhere : (spots : List Spot) (log : List LogEntry) (c : ℕ) → Agrees (slots_in spots) log → None ≡ find (is_of c) (slots_in spots) → placed_at log c ≡ None
unfolding placed_at
placed_nowhere spots log c a none = ap (λ (o : Option Slot). option_map placed_of o) (ap (λ (xs : List Slot). find (is_of c) xs) (sym a.placed) ∙ sym none)

pub is_found : (spots : List Spot) (log : List LogEntry) (c : ℕ) → Agrees (slots_in spots) log → IsSome (placed_at log c) → IsSome (find (is_of c) (slots_in spots))
unfolding placed_at
is_found spots log c a some = subst (λ (xs : List Slot). IsSome (find (is_of c) xs)) (sym a.placed) (go (find (is_of c) (slots_of log)) some)
  where
    go : (o : Option Slot) → IsSome (option_map placed_of o) → IsSome o
    go None e = e
    go (Some s) e = e
