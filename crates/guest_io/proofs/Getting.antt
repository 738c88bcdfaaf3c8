-- A chunk that is got for a call.
use Rattle.std.proofs.Common.{◌≡◌, ◌∙◌, ap, sym, refl, subst, ℕ, zero, suc, ◌+◌, ◌<◌, ◌≤◌, ◌==◌, Bool, true, false, true≢false, cond, List, [], ◌∷◌, ◌++◌, length, take, get_or, Option, None, Some, option_map, Result, Ok, Err, arith}
use Rattle.std.specs.List.{find}
use Rattle.std.proofs.lemmas.Bool.{eq-eqb}
use Rattle.std.proofs.lemmas.Grind.{common_steps}
use Rattle.page_map.specs.declared.pages.Mode.{Mode}
use Rattle.page_map.specs.declared.ranges.LogEntry.{LogEntry}
use Rattle.page_map.specs.declared.ranges.Placed.{Placed}
use Rattle.page_map.specs.Logs.{Slot, is_in, is_of, placed_of, slots_of, slot_in, placed_at}
use Rattle.range_tree.specs.Ranges.{pins_on, pinned_in, IsSoundRanges}
use Rattle.page_map.specs.Board.{MapView, Hands, log_at}
use Rattle.guest_wire.specs.Keeps.{Begins}
use Rattle.guest_dax.specs.Stands.{Stand, Keeps, KeepsMap}
use Rattle.guest_dax.specs.Reclaims.{Acquires}
use Rattle.guest_dax.specs.declared.refusals.DaxRefusal.{DaxRefusal}
use Rattle.guest_dax.specs.declared.refusals.DaxRefusal.TheVariants as refusals
use Rattle.guest_dax.proofs.Searching.{IsBlocked-same}
use Rattle.guest_dax.proofs.Rounds.{Caused-keeps}
use Rattle.guest_dax.specs.Pinning.{IsEnoughPlaced}
use Rattle.guest_io.specs.Chunks.{IsUnpinned, Gets, StaysRounds}
use Rattle.guest_io.specs.Ways.{IsPlacedFor, IsPlacedWith}

front-of : (xs ys : List LogEntry) → take (length xs) (xs ++ ys) ≡ xs
front-of xs ys = grind (arith, common_steps)

-- the log as it was seen between two moments
seen-between : (a b c : List LogEntry) (chunk : ℕ) → Begins a b → Begins b c → placed_at b chunk ≡ None → (n : ℕ) × (length a ≤ n) × (n ≤ length c) × (placed_at (take n c) chunk ≡ None)
seen-between a b c chunk (m, e) (k, d) none =
    let low : length b ≡ length a + length m = ap length e ∙ grind (arith, common_steps) in
    let high : length c ≡ length b + length k = ap length d ∙ grind (arith, common_steps) in
    let front : take (length b) c ≡ b = ap (take (length b)) d ∙ front-of b k in
    (length b, omega arith, omega arith, ap (λ l. placed_at l chunk) front ∙ none)

-- what passes one test, where nothing passes another
find-other : {X : Type 0} (p q : X → Bool) (xs : List X) (x : X) → find p xs ≡ Some x → find q xs ≡ None → q x ≡ false
find-other p q [] x e n = absurd cc
find-other p q (y ∷ xs) x e n = by (p y) (q y) refl e n (find-other p q xs x)
  where
    by : (b c : Bool) → q y ≡ c → cond b (Some y) (find p xs) ≡ Some x → cond c (Some y) (find q xs) ≡ None → (find p xs ≡ Some x → find q xs ≡ None → q x ≡ false) → q x ≡ false
    by b true is e n rest = absurd cc
    by true false is e n rest = let same : y ≡ x = cc in ap q (sym same) ∙ is
    by false false is e n rest = rest e n

no-slot : (o : Option Slot) → option_map placed_of o ≡ None → o ≡ None
no-slot None e = refl
no-slot (Some s) e = absurd cc

-- a chunk in some range is placed
slot-placed : (log : List LogEntry) (range chunk : ℕ) (s : Slot) → slot_in log range ≡ Some s → s.chunk ≡ chunk → placed_at log chunk ≡ None → ⊥
unfolding slot_in placed_at
slot-placed log range chunk s there same none =
    let isnt : (s.chunk == chunk) ≡ false = find-other (is_in range) (is_of chunk) (slots_of log) s there (no-slot (find (is_of chunk) (slots_of log)) none) in
    true≢false (sym (eq-eqb s.chunk chunk same) ∙ isnt)

-- a board that doesn't have a chunk in its log has no pin on it, and had none before
unpinned-by : (s t : MapView) (file chunk : ℕ) → KeepsMap s t → IsSoundRanges t → placed_at (log_at t file) chunk ≡ None → IsUnpinned s file chunk
unpinned-by s t file chunk k sound none range had on shows =
    let more = k.pins range in
    let now : 0 < pins_on t range = omega (arith, had, more) in
    let same = k.pinned range had in
    let at = sound.pins range (pinned-within t.hands.pins range now) now in
    let file_is : (pinned_in t range).file ≡ file = same.same_file ∙ on in
    slot-placed (log_at t file) range chunk at.slot (ap (λ (f : ℕ). slot_in (log_at t f) range) (sym file_is) ∙ at.placed) (at.same_chunk ∙ same.same_chunk ∙ shows) none
  where
    pinned-within : (pins : List ℕ) (range : ℕ) → 0 < get_or pins range 0 → range < length pins
    pinned-within [] range h = absurd (omega (arith, h))
    pinned-within (x ∷ pins) zero h = omega arith
    pinned-within (x ∷ pins) (suc range) h = let r = pinned-within pins range h in omega (arith, r)

pub Gets-refused : (s t u : Stand) (file chunk : ℕ) (mode : Mode) (e : DaxRefusal) → Keeps s t → t.map.hands ≡ s.map.hands → placed_at (log_at t.map file) chunk ≡ None → IsSoundRanges t.map → Keeps t u → Acquires t (Err e) u → Gets s file chunk mode (Err e) u
Gets-refused s t u file chunk mode (refusals.Busy looked) k h none sound l (h', blocked, looks, rounds) = (
  h' ∙ h,
  (λ range within. IsBlocked-same s.map t.map u.map u.map range k.map (ap (λ (x : Hands). get_or x.pins range 0) h) refl (blocked range (subst (λ n. range < n) (sym k.map.count) within))),
  looks,
  (let (n, low, high, gone) = seen-between (log_at s.map file) (log_at t.map file) (log_at u.map file) chunk (k.map.logs file) (l.map.logs file) none in (n, low, high, gone, unpinned-by s.map t.map file chunk k.map sound none)),
)
Gets-refused s t u file chunk mode (refusals.Errno n) k h none sound l (h', looks, rounds, caused) = (h' ∙ h, looks, Caused-keeps s t u (refusals.Errno n) k caused)
Gets-refused s t u file chunk mode (refusals.BadReply b) k h none sound l (h', looks, rounds, caused) = (h' ∙ h, looks, Caused-keeps s t u (refusals.BadReply b) k caused)
Gets-refused s t u file chunk mode refusals.WireFault k h none sound l (h', looks, rounds, caused) = (h' ∙ h, looks, Caused-keeps s t u refusals.WireFault k caused)
Gets-refused s t u file chunk mode refusals.Memory k h none sound l (h', looks) = (h' ∙ h, looks, tt)

-- ---- rounds

pub rounds-as : {T : Type 0} (old : MapView) (r : Result T DaxRefusal) (new : MapView) → new.ranges.rounds ≡ old.ranges.rounds → StaysRounds old r new
rounds-as old (Ok p) new e = e
rounds-as old (Err (refusals.Busy looked)) new e = e
rounds-as old (Err (refusals.Errno number)) new e = e
rounds-as old (Err (refusals.BadReply bytes)) new e = e
rounds-as old (Err refusals.WireFault) new e = e
rounds-as old (Err refusals.Memory) new e = tt

-- ---- what is placed already

enough-for : (mode : Mode) (o : Option Placed) → IsPlacedWith mode o → IsEnoughPlaced mode o
unfolding IsEnoughPlaced
enough-for mode None h = absurd h
enough-for mode (Some p) h = h

pub enough-placed-for : (log : List LogEntry) (chunk : ℕ) (mode : Mode) → IsPlacedFor log chunk mode → IsEnoughPlaced mode (placed_at log chunk)
enough-placed-for log chunk mode h = enough-for mode (placed_at log chunk) h

none-for : (mode : Mode) (o : Option Placed) → o ≡ None → IsPlacedWith mode o → ⊥
none-for mode None e h = h
none-for mode (Some p) e h = absurd cc

-- where no log has changed, a chunk that was placed is placed
pub placed-still : (v w : MapView) (file chunk : ℕ) (mode : Mode) → w.ranges.logs ≡ v.ranges.logs → IsPlacedFor (log_at v file) chunk mode → placed_at (log_at w file) chunk ≡ None → ⊥
placed-still v w file chunk mode logs h none =
    none-for mode (placed_at (log_at v file) chunk) (ap (λ (ls : List (List LogEntry)). placed_at (get_or ls file []) chunk) (sym logs) ∙ none) h
