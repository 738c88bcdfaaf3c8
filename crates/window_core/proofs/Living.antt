-- What is live in a log that grows, and that what is placed at its end is live there.
use Rattle.std.proofs.Common.{◌≡◌, ◌∙◌, ap, sym, refl, subst, ℕ, zero, suc, ◌+◌, ◌<◌, ◌≤◌, ◌==◌, ◌&&◌, ◌||◌, not, Bool, true, false, nat_lt, nat_le, cond, List, [], ◌∷◌, ◌++◌, length, drop, map, filter, slice_get, Option, Some, arith, length-append, append_assoc}
use Rattle.std.specs.List.{list_any, AllByRecursion}
use Rattle.std.proofs.lemmas.Bool.{and_parts, ltb-true, leb-true, lt-ltb, le-leb}
use Rattle.std.proofs.lemmas.List.{take-append-le, drop-append-le, append-nil}
use Rattle.std.proofs.Math.Seq.{take-length}
use Rattle.page_map.specs.declared.pages.Mode.{Mode}
use Rattle.page_map.specs.declared.pages.Mode.TheVariants as modes
use Rattle.page_map.specs.declared.ranges.LogEntry.{LogEntry}
use Rattle.page_map.specs.declared.ranges.LogEntry.TheVariants as entries
use Rattle.page_map.specs.Logs.{Slot, live, stays, is_writable, removes, upgrades, between, is_in, upgraded, next_slots, slots_from, slots_of}
use Rattle.window_core.proofs.Places.{at_last, at_longer}

-- the entries after k, of which the last is new
pub between_more : (log : List LogEntry) (e : LogEntry) (k : ℕ) → k < length log → between (log ++ e ∷ []) k (length (log ++ e ∷ [])) ≡ between log k (length log) ++ e ∷ []
between_more log e k near = ap (λ (l : List LogEntry). drop (k + 1) l) (take-length (log ++ e ∷ [])) ∙ (drop-append-le (k + 1) log (e ∷ []) (omega arith) ∙ ap (λ (l : List LogEntry). drop (k + 1) l ++ e ∷ []) (sym (take-length log)))

between_same : (log : List LogEntry) (e : LogEntry) (k m : ℕ) → m ≤ length log → between (log ++ e ∷ []) k m ≡ between log k m
between_same log e k m few = ap (λ (l : List LogEntry). drop (k + 1) l) (take-append-le m log (e ∷ []) few)

pub any_more : {A : Type 0} (f : A → Bool) (xs : List A) (y : A) → list_any f (xs ++ y ∷ []) ≡ (list_any f xs || f y)
any_more f [] y = grind arith
any_more f (x ∷ xs) y = ap (λ (b : Bool). f x || b) (any_more f xs y) ∙ assoc (f x) (list_any f xs) (f y)
  where
    assoc : (a b c : Bool) → (a || (b || c)) ≡ ((a || b) || c)
    assoc true b c = refl
    assoc false b c = refl

-- a placement that lasts from entry k to length m
pub record Lasts (log : List LogEntry) (k m c r : ℕ) (first : Mode) : Type 0 where
  pub before : k < m
  pub within : m ≤ length log
  pub place : slice_get log k ≡ Some (entries.Place c r first)
  pub kept : list_any (removes r) (between log k m) ≡ false

three : (a b c : Bool) → a ≡ true → b ≡ true → c ≡ true → (a && b && c) ≡ true
three a b c p q r = grind arith

no_removal : (b : Bool) → not b ≡ true → b ≡ false
no_removal true e = cc
no_removal false e = refl

pub lasts_live : (log : List LogEntry) (k m c r : ℕ) (first : Mode) → Lasts log k m c r first → live log k m ≡ true
unfolding live stays
lasts_live log k m c r first l = three (nat_lt k m) (nat_le m (length log)) (stays (slice_get log k) (between log k m)) (lt-ltb k m l.before) (le-leb m (length log) l.within)
    (ap (λ (o : Option LogEntry). stays o (between log k m)) l.place ∙ ap not l.kept)

pub live_lasts : (log : List LogEntry) (k m c r : ℕ) (first : Mode) → slice_get log k ≡ Some (entries.Place c r first) → live log k m ≡ true → Lasts log k m c r first
unfolding live stays
live_lasts log k m c r first at l =
    let p = and_parts (nat_lt k m) (nat_le m (length log) && stays (slice_get log k) (between log k m)) (assoc (nat_lt k m) (nat_le m (length log)) (stays (slice_get log k) (between log k m)) l) in
    let q = and_parts (nat_le m (length log)) (stays (slice_get log k) (between log k m)) p.1 in record {
      before = ltb-true k m p.0;
      within = leb-true m (length log) q.0;
      place = at;
      kept = no_removal (list_any (removes r) (between log k m)) (sym (ap (λ (o : Option LogEntry). stays o (between log k m)) at) ∙ q.1);
    }
  where
    assoc : (a b c : Bool) → (a && b && c) ≡ true → (a && (b && c)) ≡ true
    assoc a b c e = grind arith

-- what lasts to a length does so whatever is added
pub lasts_stays : (log : List LogEntry) (e : LogEntry) (k m c r : ℕ) (first : Mode) → Lasts log k m c r first → Lasts (log ++ e ∷ []) k m c r first
lasts_stays log e k m c r first l = let w = l.within in record {
  before = l.before;
  within = omega (arith, length-append log (e ∷ []));
  place = at_longer log (e ∷ []) k (entries.Place c r first) l.place;
  kept = ap (list_any (removes r)) (between_same log e k m l.within) ∙ l.kept;
}

-- and at the new length, where it isn't removed
pub lasts_on : (log : List LogEntry) (e : LogEntry) (k c r : ℕ) (first : Mode) → removes r e ≡ false → Lasts log k (length log) c r first → Lasts (log ++ e ∷ []) k (length (log ++ e ∷ [])) c r first
lasts_on log e k c r first other l = let b = l.before in record {
  before = omega (arith, length-append log (e ∷ []));
  within = omega arith;
  place = at_longer log (e ∷ []) k (entries.Place c r first) l.place;
  kept = ap (list_any (removes r)) (between_more log e k l.before) ∙ (any_more (removes r) (between log k (length log)) e ∙ none (list_any (removes r) (between log k (length log))) (removes r e) l.kept other);
}
  where
    none : (a b : Bool) → a ≡ false → b ≡ false → (a || b) ≡ false
    none a b p q = grind arith

between_last : (log : List LogEntry) (e : LogEntry) → between (log ++ e ∷ []) (length log) (length (log ++ e ∷ [])) ≡ []
between_last log e = ap (λ (l : List LogEntry). drop (length log + 1) l) (take-length (log ++ e ∷ [])) ∙ past (log ++ e ∷ []) (length log + 1) (omega (arith, length-append log (e ∷ [])))
  where
    past : (l : List LogEntry) (n : ℕ) → length l ≤ n → drop n l ≡ []
    past [] zero h = refl
    past [] (suc n) h = refl
    past (x ∷ xs) zero h = absurd (omega arith)
    past (x ∷ xs) (suc n) h = past xs n (omega arith)

pub lasts_new : (log : List LogEntry) (c r : ℕ) (m : Mode) → Lasts (log ++ entries.Place c r m ∷ []) (length log) (length (log ++ entries.Place c r m ∷ [])) c r m
lasts_new log c r m = record {
  before = omega (arith, length-append log (entries.Place c r m ∷ []));
  within = omega arith;
  place = at_last log (entries.Place c r m);
  kept = ap (list_any (removes r)) (between_last log (entries.Place c r m));
}

-- ---- the slots of a log

-- the slot's place lasts to the log's end, and is for writing exactly where it may be written there
pub record IsLiving (log : List LogEntry) (s : Slot) : Type 0 where
  pub first : Mode
  pub lasts : Lasts log s.entry (length log) s.chunk s.range first
  pub mode : is_writable s.mode ≡ (is_writable first || list_any (upgrades s.range) (between log s.entry (length log)))

abbrev pub Living : List LogEntry → List Slot → Type 0
Living log slots = AllByRecursion (IsLiving log) slots

all_map : (P Q : Slot → Type 0) (f : Slot → Slot) → ((s : Slot) → P s → Q (f s)) → (xs : List Slot) → AllByRecursion P xs → AllByRecursion Q (map f xs)
all_map P Q f g [] all = tt
all_map P Q f g (x ∷ xs) all = (g x all.0, all_map P Q f g xs all.1)

all_more : (P Q : Slot → Type 0) → ((s : Slot) → P s → Q s) → (xs : List Slot) (y : Slot) → AllByRecursion P xs → Q y → AllByRecursion Q (xs ++ y ∷ [])
all_more P Q f [] y all last = (last, tt)
all_more P Q f (x ∷ xs) y all last = (f x all.0, all_more P Q f xs y all.1 last)

all_filter : (P Q : Slot → Type 0) (keep : Slot → Bool) → ((s : Slot) → keep s ≡ true → P s → Q s) → (xs : List Slot) → AllByRecursion P xs → AllByRecursion Q (filter keep xs)
all_filter P Q keep g [] all = tt
all_filter P Q keep g (x ∷ xs) all = go (keep x) (λ k. g x k all.0) (all_filter P Q keep g xs all.1)
  where
    go : (b : Bool) → (b ≡ true → Q x) → AllByRecursion Q (filter keep xs) → AllByRecursion Q (cond b (x ∷ filter keep xs) (filter keep xs))
    go true now rest = (now refl, rest)
    go false now rest = rest

or_false : (b : Bool) → (b || false) ≡ b
or_false true = refl
or_false false = refl

or_true : (a b c : Bool) → c ≡ true → true ≡ (a || (b || c))
or_true a b c e = grind arith

-- an entry that neither removes nor upgrades the slot
living_on : (log : List LogEntry) (e : LogEntry) (s : Slot) → removes s.range e ≡ false → upgrades s.range e ≡ false → IsLiving log s → IsLiving (log ++ e ∷ []) s
living_on log e s stay same l = record {
  first = l.first;
  lasts = lasts_on log e s.entry s.chunk s.range l.first stay l.lasts;
  mode = l.mode ∙ ap (λ (b : Bool). is_writable l.first || b) (sym (ap (list_any (upgrades s.range)) (between_more log e s.entry l.lasts.before) ∙ (any_more (upgrades s.range) (between log s.entry (length log)) e ∙ (ap (λ (b : Bool). list_any (upgrades s.range) (between log s.entry (length log)) || b) same ∙ or_false (list_any (upgrades s.range) (between log s.entry (length log)))))));
}

living_upgraded : (log : List LogEntry) (r : ℕ) (s : Slot) → IsLiving log s → IsLiving (log ++ entries.Upgrade r ∷ []) (upgraded r s)
unfolding removes upgrades is_writable
living_upgraded log r s l = record {
  first = l.first;
  lasts = lasts_on log (entries.Upgrade r) s.entry s.chunk s.range l.first refl l.lasts;
  mode = go (s.range == r) (sym_eqb s.range r) ∙ ap (λ (b : Bool). is_writable l.first || b) (sym (ap (list_any (upgrades s.range)) (between_more log (entries.Upgrade r) s.entry l.lasts.before) ∙ any_more (upgrades s.range) (between log s.entry (length log)) (entries.Upgrade r)));
}
  where
    sym_eqb : (a b : ℕ) → (a == b) ≡ (b == a)
    sym_eqb a b = grind arith

    up : Bool
    up = list_any (upgrades s.range) (between log s.entry (length log))

    go : (b : Bool) → b ≡ (r == s.range) → is_writable (cond b modes.W s.mode) ≡ (is_writable l.first || (up || (r == s.range)))
    go true e = or_true (is_writable l.first) up (r == s.range) (sym e)
    go false e = l.mode ∙ ap (λ (b : Bool). is_writable l.first || b) (sym (ap (λ (b : Bool). up || b) (sym e) ∙ or_false up))

living_new : (log : List LogEntry) (c r : ℕ) (m : Mode) → IsLiving (log ++ entries.Place c r m ∷ []) (record { chunk = c; range = r; mode = m; entry = length log })
living_new log c r m = record {
  first = m;
  lasts = lasts_new log c r m;
  mode = sym (ap (λ (b : Bool). is_writable m || b) (ap (list_any (upgrades r)) (between_last log (entries.Place c r m))) ∙ or_false (is_writable m));
}

living_placed : (log : List LogEntry) (c r : ℕ) (m : Mode) (slots : List Slot) → Living log slots → Living (log ++ entries.Place c r m ∷ []) (slots ++ record { chunk = c; range = r; mode = m; entry = length log } ∷ [])
unfolding removes upgrades
living_placed log c r m slots all = all_more (IsLiving log) (IsLiving (log ++ entries.Place c r m ∷ [])) (λ s l. living_on log (entries.Place c r m) s refl refl l) slots (record { chunk = c; range = r; mode = m; entry = length log }) all (living_new log c r m)

stays_other : (a b : ℕ) → not (a == b) ≡ true → (b == a) ≡ false
stays_other a b e = grind arith

living_left : (log : List LogEntry) (r : ℕ) (slots : List Slot) → Living log slots → Living (log ++ entries.Remove r ∷ []) (filter (λ s. not (is_in r s)) slots)
unfolding removes upgrades
living_left log r slots all = all_filter (IsLiving log) (IsLiving (log ++ entries.Remove r ∷ [])) (λ s. not (is_in r s)) (λ s k l. living_on log (entries.Remove r) s (stays_other s.range r k) refl l) slots all

living_next : (log : List LogEntry) (e : LogEntry) (slots : List Slot) → Living log slots → Living (log ++ e ∷ []) (next_slots (length log) slots e)
unfolding next_slots
living_next log (entries.Place c r m) slots all = living_placed log c r m slots all
living_next log (entries.Upgrade r) slots all = all_map (IsLiving log) (IsLiving (log ++ entries.Upgrade r ∷ [])) (upgraded r) (λ s l. living_upgraded log r s l) slots all
living_next log (entries.Remove r) slots all = living_left log r slots all

living_from : (front log : List LogEntry) (slots : List Slot) → Living front slots → Living (front ++ log) (slots_from (length front) slots log)
unfolding slots_from
living_from front [] slots all = subst (λ (l : List LogEntry). Living l slots) (sym (append-nil front)) all
living_from front (e ∷ log) slots all = subst (λ (x : List LogEntry × ℕ). Living x.0 (slots_from x.1 (next_slots (length front) slots e) log)) (λ i. (append_assoc front (e ∷ []) log i, length-append front (e ∷ []) i))
    (living_from (front ++ e ∷ []) log (next_slots (length front) slots e) (living_next front e slots all))

-- what is placed at a log's end is live there
pub living_of : (log : List LogEntry) → Living log (slots_of log)
unfolding slots_of
living_of log = living_from [] log [] tt
