-- A turn of the background: what it sees of the ranges, and what it does by that.
use Rattle.std.specs.Prelude.{◌≡◌, ℕ, ◌*◌, ◌-◌, ◌^◌, ◌<◌, ◌≤◌, Bool, true, false, List, length, filter, slice_index_or, IsSome, ◌⊎◌, Result, Ok, Err}
use Rattle.plain_file.specs.Counts.{Rose}
use Rattle.page_map.specs.Board.{MapView}
use Rattle.page_map.specs.declared.ranges.RangeWord.{RangeWord}
use Rattle.page_map.specs.declared.ranges.RangeWord.TheVariants as words
use Rattle.range_tree.specs.Ranges.{range_count, look_at, Sees}
use Rattle.guest_dax.specs.Stands.{Stand, KeepsMap}
use Rattle.guest_dax.specs.Looks.{NoLooks}
use Rattle.guest_dax.specs.Reclaims.{Caused}
use Rattle.guest_dax.specs.Freeing.{IsFreed, AllPassed}
use Rattle.guest_dax.specs.declared.refusals.DaxRefusal.{DaxRefusal}

-- the board is this one, but for its noted looks
abbrev pub IsButLooks : MapView → MapView → Type 0
IsButLooks v w = w ≡ record v { ranges = record v.ranges { looks = w.ranges.looks } }

-- a word says that the range is free
unfoldable pub is_free : RangeWord → Bool
is_free words.Free = true
is_free (words.Moving guest) = false
is_free (words.Mapped file chunk mode pins) = false

-- words that were seen of the first ranges, one of each, of which so many say that it is free
pub record IsCounted (v : MapView) (upto free : ℕ) : Type 0 where
  pub seen : List RangeWord
  pub many : length seen ≡ upto
  pub each : (range : ℕ) → range < upto → Sees v range (slice_index_or seen range words.Free)
  pub count : free ≡ length (filter is_free seen)

-- they are noted, and nothing else has changed
pub record IsCounting (v w : MapView) (upto free : ℕ) : Type 0 where
  pub counted : IsCounted v upto free
  pub rest : IsButLooks v w
  pub looks : length w.ranges.looks ≡ length v.ranges.looks
  pub noted : (range : ℕ) → range < upto → IsSome (look_at w range)

-- all ranges were looked at, and no look is noted any more
pub record Sweeps (old : MapView) (free : ℕ) (new : MapView) : Type 0 where
  pub counted : IsCounted old (range_count old) free
  pub keeps : KeepsMap old new
  pub hands : new.hands ≡ old.hands
  pub logs : new.ranges.logs ≡ old.ranges.logs
  pub looks : NoLooks new
  pub rose : Rose old.ranges.sweeps new.ranges.sweeps
  pub most : new.ranges.sweeps ≤ 2 ^ 64 - 1

-- at some moment each range had a look that shows it free, or that it couldn't be taken
abbrev pub HadNone : MapView → Type 0
HadNone v = (now : MapView) × AllPassed v now

-- a range was freed, or none could be
abbrev pub FreesOrNone : Stand → Result (Unit {0}) DaxRefusal → Stand → Type 0
FreesOrNone old (Ok u) new = (new.map.hands ≡ old.map.hands) × NoLooks new.map × (IsFreed old.map new.map ⊎ HadNone old.map)
FreesOrNone old (Err e) new = (new.map.hands ≡ old.map.hands) × NoLooks new.map × Caused old e new

-- By how many ranges were seen free: where five times these are at least all ranges, nothing of the logs has changed; else a range was freed, or none could be.
pub record HasTurned (old new : MapView) : Type 0 where
  pub free : ℕ
  pub counted : IsCounted old (range_count old) free
  pub enough : range_count old ≤ free * 5 → new.ranges.logs ≡ old.ranges.logs
  pub few : free * 5 < range_count old → IsFreed old new ⊎ HadNone old

-- What a turn of the background answers and leaves: it has swept all ranges, whatever it answers.
abbrev pub Turns : Stand → Result (Unit {0}) DaxRefusal → Stand → Type 0
Turns old (Ok u) new = (new.map.hands ≡ old.map.hands) × NoLooks new.map × HasTurned old.map new.map
Turns old (Err e) new = (new.map.hands ≡ old.map.hands) × NoLooks new.map × Caused old e new
