-- How a read and a write of a guest come to their file.
use Rattle.std.specs.Prelude.{◌≡◌, ℕ, ◌+◌, ◌<◌, ◌≤◌, true, List, length, Option, Some, None}
use Rattle.plain_file.specs.declared.operations.Way.{Way}
use Rattle.plain_file.specs.declared.operations.Way.TheVariants as ways
use Rattle.plain_file.specs.History.{size}
use Rattle.plain_file.specs.Board.{FileView}
use Rattle.plain_file.specs.Sound.{IsFresh}
use Rattle.page_map.specs.declared.pages.Mode.{Mode}
use Rattle.page_map.specs.declared.pages.Mode.TheVariants as modes
use Rattle.page_map.specs.declared.ranges.LogEntry.{LogEntry}
use Rattle.page_map.specs.declared.ranges.Placed.{Placed}
use Rattle.page_map.specs.Logs.{placed_at}
use Rattle.range_tree.specs.Ranges.{is_enough}
use Rattle.guest_io.specs.Calls.{Covers, first_chunk, last_chunk}

-- The way of a read: without ranges a request; with ranges one live pair for each chunk of the interval.
abbrev pub IsReadWay : ℕ → List LogEntry → ℕ → ℕ → Way → Type 0
IsReadWay ranges log off len ways.Req = ranges ≡ 0
IsReadWay ranges log off len (ways.ReqSaw z) = ⊥
IsReadWay ranges log off len (ways.Via first second) = (0 < ranges) × Covers log off len modes.R first second

-- The way of a write that stands at this place of a file: without ranges a request. With ranges one live and writable
-- pair for each chunk of the interval, where the write ends at most at the size before its place; or a request, with a
-- size that is below the write's end, and, where the board keeps the sizes that it notes, was the file's at some moment
-- from what was seen before up to the place.
abbrev pub IsWriteWay : Type 0 → ℕ → List LogEntry → FileView → FileView → ℕ → ℕ → ℕ → Way → Type 0
IsWriteWay keeps ranges log old new place off len ways.Req = ranges ≡ 0
IsWriteWay keeps ranges log old new place off len (ways.ReqSaw z) = (0 < ranges) × (z < off + len) × (keeps → IsFresh new.first new.history (length old.history) place z)
IsWriteWay keeps ranges log old new place off len (ways.Via first second) = (0 < ranges) × Covers log off len modes.W first second × (off + len ≤ size new.first new.history place)

-- something is placed, with a mode that is enough
abbrev pub IsPlacedWith : Mode → Option Placed → Type 0
IsPlacedWith mode None = ⊥
IsPlacedWith mode (Some p) = is_enough mode p.mode ≡ true

-- a chunk is placed with a mode that is enough
abbrev pub IsPlacedFor : List LogEntry → ℕ → Mode → Type 0
IsPlacedFor log chunk mode = IsPlacedWith mode (placed_at log chunk)

-- each chunk of an interval is
pub record ArePlaced (log : List LogEntry) (off len : ℕ) (mode : Mode) : Type 0 where
  pub first : IsPlacedFor log (first_chunk off) mode
  pub last : IsPlacedFor log (last_chunk off len) mode
