-- Live placements of a log.
use Rattle.std.proofs.Common.{◌≡◌, refl, ℕ, ◌+◌, ◌<◌, ◌≤◌, ◌&&◌, ◌||◌, not, Bool, true, false, ltb, List, length, take, drop, slice_get, Some, get_or, arith}
use Rattle.std.proofs.lemmas.Bool.{and_parts, ltb-true, leb-true, le-leb, lt-ltb, le-ltb, lt-leb}
use Rattle.std.proofs.lemmas.Option.{slice_get-get_or}
use Rattle.page_map.specs.declared.ranges.LogEntry.{LogEntry}
use Rattle.page_map.specs.Logs.{live, places, writable}
use Rattle.range_tree.specs.Logs.{is_live, lasts}

-- what is live at a length is so below it, and the log is as long
pub live_within : (write : Bool) (log : List LogEntry) (chunk k m : ℕ) → is_live write log chunk k m ≡ true → (k < m) × (m ≤ length log)
unfolding is_live live
live_within write log chunk k m is =
    let a = and_parts _ _ (and_parts _ _ is).0 in
    let b = and_parts _ _ (and_parts _ _ a.1).0 in
    (ltb-true k m b.0, leb-true m (length log) b.1)

dead : (a b : Bool) → (a && false && b) ≡ false
dead true b = refl
dead false b = refl

nothing : (a : Bool) → (a && false) ≡ false
nothing true = refl
nothing false = refl

-- by the entry and those between
pub live_lasts : (write : Bool) (log : List LogEntry) (chunk k m : ℕ) (d : LogEntry) → k < m → m ≤ length log → is_live write log chunk k m ≡ lasts write (get_or log k d) chunk (drop (k + 1) (take m log))
unfolding is_live live writable
live_lasts write log chunk k m d lo few = let at : slice_get log k ≡ Some (get_or log k d) = slice_get-get_or log k d (omega arith) in rw (at, lt-ltb k m lo, le-leb m (length log) few) refl

pub live_below : (write : Bool) (log : List LogEntry) (chunk k m : ℕ) → m ≤ k → is_live write log chunk k m ≡ false
unfolding is_live live
live_below write log chunk k m le = rw (le-ltb k m le) (dead (places chunk (slice_get log k)) (not write || writable log k m))

pub live_long : (write : Bool) (log : List LogEntry) (chunk k m : ℕ) → length log < m → is_live write log chunk k m ≡ false
unfolding is_live live
live_long write log chunk k m lt = rw (lt-leb m (length log) lt, nothing (ltb k m)) (dead (places chunk (slice_get log k)) (not write || writable log k m))
