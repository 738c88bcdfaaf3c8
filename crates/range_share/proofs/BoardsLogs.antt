-- Fronts of logs: they are sound, and what is live or may be written there.
use Rattle.std.proofs.Common.{◌≡◌, ◌∙◌, ap, sym, refl, ℕ, zero, suc, ◌+◌, ◌<◌, ◌≤◌, ◌&&◌, ◌||◌, arith, Bool, true, false, List, [], ◌∷◌, ◌++◌, length, take, drop, slice_get, Option, Some, None, if◌then◌else◌}
use Rattle.std.specs.List.{list_any, find}
use Rattle.std.proofs.lemmas.Bool.{and_parts, eqb-true}
use Rattle.std.proofs.lemmas.List.{take-append-le, drop-append-le, take-append-drop, length-take-le}
use Rattle.std.proofs.Math.Seq.{take-length}
use Rattle.page_map.specs.declared.pages.Mode.{Mode}
use Rattle.page_map.specs.declared.pages.Mode.TheVariants as modes
use Rattle.page_map.specs.declared.ranges.LogEntry.{LogEntry}
use Rattle.page_map.specs.declared.ranges.LogEntry.TheVariants as entries
use Rattle.page_map.specs.declared.ranges.Placed.{Placed}
use Rattle.page_map.specs.Logs.{Slot, slot_in, slots_of, is_in, may_follow, next_slots, sound_from, sound, between, writable, is_written, is_writable, upgrades, removes, places, live, placed_at}
use Rattle.range_tree.specs.Logs.{is_live}
use Rattle.range_tree.proofs.Live.{live_within}
use Rattle.window_core.proofs.Living.{Lasts}
use Rattle.window_core.proofs.Lives.{placed_lives}

-- ---- sound fronts

sound_take : (n m : ℕ) (slots : List Slot) (log : List LogEntry) (k : ℕ) → sound_from n m slots log ≡ true → sound_from n m slots (take k log) ≡ true
unfolding sound_from
sound_take n m slots log zero e = refl
sound_take n m slots [] (suc k) e = refl
sound_take n m slots (x ∷ log) (suc k) e =
    let p = and_parts (may_follow n slots x) (sound_from n (m + 1) (next_slots m slots x) log) e in
    let t = sound_take n (m + 1) (next_slots m slots x) log k p.1 in
    rw p.0 t

pub sound_front : (n : ℕ) (log : List LogEntry) (k : ℕ) → sound n log ≡ true → sound n (take k log) ≡ true
unfolding sound
sound_front n log k e = sound_take n 0 [] log k e

-- ---- slots

found_in : (r : ℕ) (ss : List Slot) (t : Slot) → find (is_in r) ss ≡ Some t → t.range ≡ r
found_in r [] t e = absurd (cc)
found_in r (s ∷ ss) t e = go (is_in r s) refl (found_in r ss t) e
  where
    go : (b : Bool) → is_in r s ≡ b → (find (is_in r) ss ≡ Some t → t.range ≡ r) → (if b then Some s else find (is_in r) ss) ≡ Some t → t.range ≡ r
    go true at rest e = let same : s ≡ t = cc in ap (λ (x : Slot). x.range) (sym same) ∙ eqb-true s.range r at
    go false at rest e = rest e

pub slot_range : (log : List LogEntry) (r : ℕ) (t : Slot) → slot_in log r ≡ Some t → t.range ≡ r
unfolding slot_in
slot_range log r t e = found_in r (slots_of log) t e

-- ---- longer logs

pub front_same : {A : Type 0} (xs ys : List A) (k : ℕ) → k < length xs → slice_get (xs ++ ys) k ≡ slice_get xs k
front_same [] ys k near = absurd (omega (arith, near))
front_same (x ∷ xs) ys zero near = refl
front_same (x ∷ xs) ys (suc k) near = front_same xs ys k (omega (arith, near))

pub between_front : (log more : List LogEntry) (k m : ℕ) → m ≤ length log → between (log ++ more) k m ≡ between log k m
between_front log more k m few = ap (λ (l : List LogEntry). drop (k + 1) l) (take-append-le m log more few)

pub writable_front : (log more : List LogEntry) (k m : ℕ) → k < m → m ≤ length log → writable (log ++ more) k m ≡ writable log k m
unfolding writable
writable_front log more k m before within =
    let e = front_same log more k (omega (arith, before, within)) in
    let b = between_front log more k m within in
    λ i. is_written (e i) (b i)

-- what lasts in a log does so in its front
pub lasts_front : (log more : List LogEntry) (k m c r : ℕ) (first : Mode) → m ≤ length log → Lasts (log ++ more) k m c r first → Lasts log k m c r first
lasts_front log more k m c r first within l =
    let b = l.before in
    record {
      before = l.before;
      within = within;
      place = sym (front_same log more k (omega (arith, b, within))) ∙ l.place;
      kept = ap (list_any (removes r)) (sym (between_front log more k m within)) ∙ l.kept;
    }

any_front : {A : Type 0} (f : A → Bool) (xs ys : List A) → list_any f xs ≡ true → list_any f (xs ++ ys) ≡ true
any_front f [] ys e = absurd (cc)
any_front f (x ∷ xs) ys e = go (f x) (any_front f xs ys) e
  where
    go : (b : Bool) → (list_any f xs ≡ true → list_any f (xs ++ ys) ≡ true) → (b || list_any f xs) ≡ true → (b || list_any f (xs ++ ys)) ≡ true
    go true rest e = refl
    go false rest e = rest e

written_more : (o : Option LogEntry) (xs ys : List LogEntry) → is_written o xs ≡ true → is_written o (xs ++ ys) ≡ true
unfolding is_written
written_more None xs ys e = e
written_more (Some (entries.Place c r m)) xs ys e = go (is_writable m) (any_front (upgrades r) xs ys) e
  where
    go : (b : Bool) → (list_any (upgrades r) xs ≡ true → list_any (upgrades r) (xs ++ ys) ≡ true) → (b || list_any (upgrades r) xs) ≡ true → (b || list_any (upgrades r) (xs ++ ys)) ≡ true
    go true rest e = refl
    go false rest e = rest e
written_more (Some (entries.Upgrade r)) xs ys e = e
written_more (Some (entries.Remove r)) xs ys e = e

-- what may be written at one length may be so at the end
pub written_end : (log : List LogEntry) (k m : ℕ) → k < m → m ≤ length log → writable log k m ≡ true → writable log k (length log) ≡ true
unfolding writable
written_end log k m before within e =
    let whole : take m log ++ drop m log ≡ log = take-append-drop m log in
    let long : length (take m log) ≡ m = length-take-le m log within in
    let cut : between log k (length log) ≡ between log k m ++ drop m log =
    ap (λ (l : List LogEntry). drop (k + 1) l) (take-length log)
    ∙ (ap (λ (l : List LogEntry). drop (k + 1) l) (sym whole) ∙ drop-append-le (k + 1) (take m log) (drop m log) (omega (arith, long, before))) in
    ap (is_written (slice_get log k)) cut ∙ written_more (slice_get log k) (between log k m) (drop m log) e

-- what is placed at the end of a sound log is live there, and where it is for writing it may be written
pub record IsPlacedLive (log : List LogEntry) (p : Placed) : Type 0 where
  pub before : p.entry < length log
  pub written : p.mode ≡ modes.W → writable log p.entry (length log) ≡ true

pub placed_live : (n : ℕ) (log : List LogEntry) (c : ℕ) (p : Placed) → sound n log ≡ true → placed_at log c ≡ Some p → IsPlacedLive log p
unfolding is_live is_writable
placed_live n log c p is at =
    let l = placed_lives n log c p is at in
    record {
      before = (live_within false log c p.entry (length log) l.live).0;
      written = λ w. (and_parts (places c (slice_get log p.entry) && live log p.entry (length log)) (writable log p.entry (length log)) (sym l.written ∙ ap is_writable w)).1;
    }

is_w : (m : Mode) → is_writable m ≡ true → m ≡ modes.W
unfolding is_writable
is_w modes.R e = absurd (cc)
is_w modes.W e = refl

pub placed_written : (n : ℕ) (log : List LogEntry) (c : ℕ) (p : Placed) → sound n log ≡ true → placed_at log c ≡ Some p → writable log p.entry (length log) ≡ true → p.mode ≡ modes.W
unfolding is_live
placed_written n log c p is at w =
    let l = placed_lives n log c p is at in
    let both = and_parts (places c (slice_get log p.entry) && live log p.entry (length log)) true l.live in
    is_w p.mode (l.written ∙ three (places c (slice_get log p.entry) && live log p.entry (length log)) (writable log p.entry (length log)) both.0 w)
  where
    three : (a b : Bool) → a ≡ true → b ≡ true → (a && (false || b)) ≡ true
    three a b x y = rw (x, y) refl
