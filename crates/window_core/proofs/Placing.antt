-- Where chunks are placed after one more entry.
use Rattle.std.proofs.Common.{◌≡◌, ◌≢◌, ◌∙◌, ap, sym, refl, ℕ, ◌<◌, ◌==◌, not, Bool, true, false, is_some, cond, List, [], ◌∷◌, ◌++◌, length, map, filter, Option, Some, None, option_map, ne_eqb, eq-eqb}
use Rattle.std.specs.List.{find, AllByRecursion}
use Rattle.std.proofs.lemmas.Bool.{eqb-true}
use Rattle.page_map.specs.declared.pages.Mode.{Mode}
use Rattle.page_map.specs.declared.pages.Mode.TheVariants as modes
use Rattle.page_map.specs.declared.ranges.LogEntry.{LogEntry}
use Rattle.page_map.specs.declared.ranges.LogEntry.TheVariants as entries
use Rattle.page_map.specs.declared.ranges.Placed.{Placed}
use Rattle.page_map.specs.Logs.{Slot, is_of, is_in, is_writable, upgraded, next_slots, slots_of, may_follow, may_upgrade, sound, placed_at, slot_in, placed_of}
use Rattle.range_tree.proofs.Finds.{find-append_some, find-append_none, find-filter, find-holds}
use Rattle.range_tree.proofs.Growing.{slots_of-append, sound-append}
use Rattle.range_tree.proofs.Apart.{IsApart, apart_of}
use Rattle.range_tree.proofs.Agreeing.{found_in_range, may_place}
use Rattle.window_core.proofs.Living.{IsLiving, living_of}

-- ---- what is found

pub find-map_option : {X : Type 0} (test : X → Bool) (f : X → X) → ((x : X) → test (f x) ≡ test x) → (xs : List X) → find test (map f xs) ≡ option_map f (find test xs)
find-map_option test f same [] = refl
find-map_option test f same (x ∷ xs) = rw (same x) (go (test x) (find-map_option test f same xs))
  where
    go : (b : Bool) → find test (map f xs) ≡ option_map f (find test xs) → cond b (Some (f x)) (find test (map f xs)) ≡ option_map f (cond b (Some x) (find test xs))
    go true e = refl
    go false e = e

find-filter_none : {X : Type 0} (test keep : X → Bool) (xs : List X) → AllByRecursion (λ x. test x ≡ true → keep x ≡ false) xs → find test (filter keep xs) ≡ None
find-filter_none test keep [] all = refl
find-filter_none test keep (x ∷ xs) all = go (keep x) refl (test x) refl (find-filter_none test keep xs all.1)
  where
    go : (k : Bool) → keep x ≡ k → (t : Bool) → test x ≡ t → find test (filter keep xs) ≡ None → find test (cond k (x ∷ filter keep xs) (filter keep xs)) ≡ None
    go false e t f rest = rest
    go true e true f rest = let clash : true ≡ false = sym e ∙ all.0 f in absurd (cc)
    go true e false f rest = rw f rest

no_find : {X : Type 0} (test : X → Bool) (P : X → Type 0) (xs : List X) → find test xs ≡ None → AllByRecursion (λ x. test x ≡ true → P x) xs
no_find test P [] none = tt
no_find test P (x ∷ xs) none = go (test x) refl none (λ e. no_find test P xs e)
  where
    go : (b : Bool) → test x ≡ b → cond b (Some x) (find test xs) ≡ None → (find test xs ≡ None → AllByRecursion (λ x. test x ≡ true → P x) xs) → (test x ≡ true → P x) × AllByRecursion (λ x. test x ≡ true → P x) xs
    go true t e rest = absurd (cc)
    go false t e rest = ((λ y. let clash : true ≡ false = sym y ∙ t in absurd (cc)), rest e)

all_same : {X : Type 0} (P Q : X → Type 0) → ((x : X) → P x → Q x) → (xs : List X) → AllByRecursion P xs → AllByRecursion Q xs
all_same P Q f [] all = tt
all_same P Q f (x ∷ xs) all = (f x all.0, all_same P Q f xs all.1)

-- ---- placed chunks and slots

pub some_same : {X : Type 0} (x y : X) → Some x ≡ Some y → x ≡ y
some_same x y e = cc

pub none_some : {X : Type 0} (x : X) → None ≡ Some x → ⊥
none_some x e = cc

-- the slot that a chunk is placed by
pub record IsSlotOf (log : List LogEntry) (c : ℕ) (p : Placed) (s : Slot) : Type 0 where
  pub found : find (is_of c) (slots_of log) ≡ Some s
  pub chunk : s.chunk ≡ c
  pub is : placed_of s ≡ p

the_slot : (o : Option Slot) (p : Placed) → option_map placed_of o ≡ Some p → (s : Slot) × (o ≡ Some s) × (placed_of s ≡ p)
the_slot None p e = absurd (none_some p e)
the_slot (Some s) p e = (s, refl, some_same (placed_of s) p e)

pub slot_of_chunk : (log : List LogEntry) (c : ℕ) (p : Placed) → placed_at log c ≡ Some p → (s : Slot) × IsSlotOf log c p s
unfolding placed_at
slot_of_chunk log c p at = let s = the_slot (find (is_of c) (slots_of log)) p at in
    (s.0, record { found = s.1; chunk = eqb-true s.0.chunk c (find-holds (is_of c) (IsLiving log) (slots_of log) s.0 s.1 (living_of log)).1; is = s.2 })

-- a placed chunk's place lives
pub living_at : (log : List LogEntry) (c : ℕ) (p : Placed) (s : Slot) → IsSlotOf log c p s → IsLiving log s
living_at log c p s is = (find-holds (is_of c) (IsLiving log) (slots_of log) s is.found (living_of log)).0

placed_by : (log : List LogEntry) (c : ℕ) (s : Slot) → find (is_of c) (slots_of log) ≡ Some s → placed_at log c ≡ Some (placed_of s)
unfolding placed_at
placed_by log c s found = ap (λ (o : Option Slot). option_map placed_of o) found

placed_none : (log : List LogEntry) (c : ℕ) → find (is_of c) (slots_of log) ≡ None → placed_at log c ≡ None
unfolding placed_at
placed_none log c none = ap (λ (o : Option Slot). option_map placed_of o) none

not_found : (o : Option Slot) → option_map placed_of o ≡ None → o ≡ None
not_found None e = refl
not_found (Some s) e = absurd (cc)

found_none : (log : List LogEntry) (c : ℕ) → placed_at log c ≡ None → find (is_of c) (slots_of log) ≡ None
unfolding placed_at
found_none log c none = not_found (find (is_of c) (slots_of log)) none

module _ (ranges : ℕ) (log : List LogEntry) (is : sound ranges log ≡ true) where
  -- a range that is in use has a chunk
  pub range_chunk : (r : ℕ) (s : Slot) → find (is_in r) (slots_of log) ≡ Some s → (placed_at log s.chunk ≡ Some (placed_of s)) × (s.range ≡ r)
  range_chunk r s found = let held = find-holds (is_in r) (IsApart (slots_of log)) (slots_of log) s found (apart_of ranges log is) in (placed_by log s.chunk s held.0.chunk, eqb-true s.range r held.1)

  -- two chunks have two ranges
  pub ranges_apart : (c c' : ℕ) (p p' : Placed) → placed_at log c ≡ Some p → placed_at log c' ≡ Some p' → p.range ≡ p'.range → c ≡ c'
  ranges_apart c c' p p' here there same = let s = slot_of_chunk log c p here in let s' = slot_of_chunk log c' p' there in
      let in_s = found_in_range ranges log c s.0 is s.1.found in
      let in_s' = found_in_range ranges log c' s'.0 is s'.1.found in
      let range : s.0.range ≡ s'.0.range = ap (λ (q : Placed). q.range) s.1.is ∙ (same ∙ sym (ap (λ (q : Placed). q.range) s'.1.is)) in
      let one : s.0 ≡ s'.0 = some_same s.0 s'.0 (sym in_s ∙ (ap (λ (r : ℕ). find (is_in r) (slots_of log)) range ∙ in_s')) in
      sym s.1.chunk ∙ (ap (λ (x : Slot). x.chunk) one ∙ s'.1.chunk)

other_chunk : (a b : ℕ) → b ≢ a → (a == b) ≡ false
other_chunk a b ne = ne_eqb a b (λ e. ne (sym e))

-- ---- a place

find_placed : (log : List LogEntry) (c r c' : ℕ) (m : Mode) → find (is_of c') (slots_of (log ++ entries.Place c r m ∷ [])) ≡ find (is_of c') (slots_of log ++ record { chunk = c; range = r; mode = m; entry = length log } ∷ [])
unfolding next_slots
find_placed log c r c' m = ap (λ (l : List Slot). find (is_of c') l) (slots_of-append log (entries.Place c r m))

pub placed_new : (log : List LogEntry) (c r : ℕ) (m : Mode) → placed_at log c ≡ None → placed_at (log ++ entries.Place c r m ∷ []) c ≡ Some (record { range = r; mode = m; entry = length log })
placed_new log c r m none = let s : Slot = record { chunk = c; range = r; mode = m; entry = length log } in placed_by (log ++ entries.Place c r m ∷ []) c s
    (find_placed log c r c m ∙ (find-append_none (is_of c) (slots_of log) (s ∷ []) (found_none log c none) ∙ ap (λ (b : Bool). cond b (Some s) None) (eq-eqb c c refl)))

pub placed_else : (log : List LogEntry) (c r c' : ℕ) (m : Mode) → c' ≢ c → placed_at (log ++ entries.Place c r m ∷ []) c' ≡ placed_at log c'
placed_else log c r c' m ne = go (find (is_of c') (slots_of log)) refl
  where
    new : Slot
    new = record { chunk = c; range = r; mode = m; entry = length log }

    go : (o : Option Slot) → find (is_of c') (slots_of log) ≡ o → placed_at (log ++ entries.Place c r m ∷ []) c' ≡ placed_at log c'
    go (Some s) found = placed_by (log ++ entries.Place c r m ∷ []) c' s (find_placed log c r c' m ∙ find-append_some (is_of c') (slots_of log) (new ∷ []) s found) ∙ sym (placed_by log c' s found)
    go None found = placed_none (log ++ entries.Place c r m ∷ []) c' (find_placed log c r c' m ∙ (find-append_none (is_of c') (slots_of log) (new ∷ []) found ∙ ap (λ (b : Bool). cond b (Some new) None) (other_chunk c c' ne))) ∙ sym (placed_none log c' found)

-- ---- an upgrade

find_upgraded : (log : List LogEntry) (r c : ℕ) → find (is_of c) (slots_of (log ++ entries.Upgrade r ∷ [])) ≡ option_map (upgraded r) (find (is_of c) (slots_of log))
unfolding next_slots
find_upgraded log r c = ap (λ (l : List Slot). find (is_of c) l) (slots_of-append log (entries.Upgrade r)) ∙ find-map_option (is_of c) (upgraded r) (λ s. refl) (slots_of log)

-- ---- a removal

find_left : (log : List LogEntry) (r c : ℕ) → find (is_of c) (slots_of (log ++ entries.Remove r ∷ [])) ≡ find (is_of c) (filter (λ s. not (is_in r s)) (slots_of log))
unfolding next_slots
find_left log r c = ap (λ (l : List Slot). find (is_of c) l) (slots_of-append log (entries.Remove r))

module _ (ranges : ℕ) (log : List LogEntry) (is : sound ranges log ≡ true) (c : ℕ) (p : Placed) (here : placed_at log c ≡ Some p) where
  slot : Slot
  slot = (slot_of_chunk log c p here).0

  of_slot : IsSlotOf log c p slot
  unfolding slot
  of_slot = (slot_of_chunk log c p here).1

  in_slot : slot.range ≡ p.range
  in_slot = ap (λ (q : Placed). q.range) of_slot.is

  -- another chunk has another range
  else_range : (c' : ℕ) → c' ≢ c → (s : Slot) → find (is_of c') (slots_of log) ≡ Some s → s.range ≢ p.range
  else_range c' ne s found e = ne (ranges_apart ranges log is c' c (placed_of s) p (placed_by log c' s found) here e)

  pub raised_here : placed_at (log ++ entries.Upgrade p.range ∷ []) c ≡ Some (record p { mode = modes.W })
  raised_here = placed_by (log ++ entries.Upgrade p.range ∷ []) c (upgraded p.range slot) (find_upgraded log p.range c ∙ ap (λ (o : Option Slot). option_map (upgraded p.range) o) of_slot.found)
      ∙ ap (λ (x : Placed). Some x) same
    where
      same : placed_of (upgraded p.range slot) ≡ record p { mode = modes.W }
      same = λ i. record { range = in_slot i; mode = ap (λ (b : Bool). cond b modes.W slot.mode) (eq-eqb slot.range p.range in_slot) i; entry = ap (λ (q : Placed). q.entry) of_slot.is i }

  pub raised_else : (c' : ℕ) → c' ≢ c → placed_at (log ++ entries.Upgrade p.range ∷ []) c' ≡ placed_at log c'
  raised_else c' ne = go (find (is_of c') (slots_of log)) refl
    where
      go : (o : Option Slot) → find (is_of c') (slots_of log) ≡ o → placed_at (log ++ entries.Upgrade p.range ∷ []) c' ≡ placed_at log c'
      go (Some s) found = placed_by (log ++ entries.Upgrade p.range ∷ []) c' (upgraded p.range s) (find_upgraded log p.range c' ∙ ap (λ (o : Option Slot). option_map (upgraded p.range) o) found)
          ∙ (ap (λ (b : Bool). Some (record { range = s.range; mode = cond b modes.W s.mode; entry = s.entry })) (ne_eqb s.range p.range (else_range c' ne s found)) ∙ sym (placed_by log c' s found))
      go None found = placed_none (log ++ entries.Upgrade p.range ∷ []) c' (find_upgraded log p.range c' ∙ ap (λ (o : Option Slot). option_map (upgraded p.range) o) found) ∙ sym (placed_none log c' found)

  pub left_here : placed_at (log ++ entries.Remove p.range ∷ []) c ≡ None
  left_here = placed_none (log ++ entries.Remove p.range ∷ []) c (find_left log p.range c ∙ find-filter_none (is_of c) (λ s. not (is_in p.range s)) (slots_of log)
      (all_same (IsApart (slots_of log)) (λ s. is_of c s ≡ true → not (is_in p.range s) ≡ false) (λ s a t. gone s a.chunk t) (slots_of log) (apart_of ranges log is)))
    where
      gone : (s : Slot) → find (is_of s.chunk) (slots_of log) ≡ Some s → is_of c s ≡ true → not (is_in p.range s) ≡ false
      gone s first t = let same : s ≡ slot = some_same s slot (sym first ∙ (ap (λ (n : ℕ). find (is_of n) (slots_of log)) (eqb-true s.chunk c t) ∙ of_slot.found)) in ap not (eq-eqb s.range p.range (ap (λ (x : Slot). x.range) same ∙ in_slot))

  pub left_else : (c' : ℕ) → c' ≢ c → placed_at (log ++ entries.Remove p.range ∷ []) c' ≡ placed_at log c'
  left_else c' ne = go (find (is_of c') (slots_of log)) refl
    where
      go : (o : Option Slot) → find (is_of c') (slots_of log) ≡ o → placed_at (log ++ entries.Remove p.range ∷ []) c' ≡ placed_at log c'
      go (Some s) found = placed_by (log ++ entries.Remove p.range ∷ []) c' s (find_left log p.range c' ∙ find-filter (is_of c') (λ s. not (is_in p.range s)) (slots_of log) s found (ap not (ne_eqb s.range p.range (else_range c' ne s found)))) ∙ sym (placed_by log c' s found)
      go None found = placed_none (log ++ entries.Remove p.range ∷ []) c' (find_left log p.range c' ∙ find-filter_none (is_of c') (λ s. not (is_in p.range s)) (slots_of log) (no_find (is_of c') (λ s. not (is_in p.range s) ≡ false) (slots_of log) found)) ∙ sym (placed_none log c' found)

  -- the log stays sound
  pub sound_left : sound ranges (log ++ entries.Remove p.range ∷ []) ≡ true
  unfolding may_follow
  sound_left = sound-append ranges log (entries.Remove p.range) is may
    where
      may : may_follow ranges (slots_of log) (entries.Remove p.range) ≡ true
      may = ap (λ (o : Option Slot). is_some o) (ap (λ (r : ℕ). find (is_in r) (slots_of log)) (sym in_slot) ∙ found_in_range ranges log c slot is of_slot.found)

  pub sound_raised : is_writable p.mode ≡ false → sound ranges (log ++ entries.Upgrade p.range ∷ []) ≡ true
  unfolding may_follow may_upgrade
  sound_raised low = sound-append ranges log (entries.Upgrade p.range) is may
    where
      may : may_follow ranges (slots_of log) (entries.Upgrade p.range) ≡ true
      may = ap (λ (o : Option Slot). may_upgrade o) (ap (λ (r : ℕ). find (is_in r) (slots_of log)) (sym in_slot) ∙ found_in_range ranges log c slot is of_slot.found) ∙ ap not (ap (λ (q : Placed). is_writable q.mode) of_slot.is ∙ low)

-- a range that no chunk has isn't in use
pub range_free : (ranges : ℕ) (log : List LogEntry) (r : ℕ) → sound ranges log ≡ true → ((c : ℕ) (p : Placed) → placed_at log c ≡ Some p → p.range ≢ r) → slot_in log r ≡ None
unfolding slot_in
range_free ranges log r is none = go (find (is_in r) (slots_of log)) refl
  where
    go : (o : Option Slot) → find (is_in r) (slots_of log) ≡ o → find (is_in r) (slots_of log) ≡ None
    go None e = e
    go (Some s) e = let q = range_chunk ranges log is r s e in absurd (none s.chunk (placed_of s) q.0 q.1)

pub sound_placed : (ranges : ℕ) (log : List LogEntry) (c r : ℕ) (m : Mode) → sound ranges log ≡ true → c < 32 → r < ranges → placed_at log c ≡ None → slot_in log r ≡ None → sound ranges (log ++ entries.Place c r m ∷ []) ≡ true
sound_placed ranges log c r m is low near free empty = sound-append ranges log (entries.Place c r m) is (may_place ranges log c r m low near free empty)
