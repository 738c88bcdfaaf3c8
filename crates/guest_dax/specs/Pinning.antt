-- A pin on a chunk of a file: where it goes through, and what it leaves.
use Rattle.std.specs.Prelude.{◌≡◌, ℕ, ◌+◌, ◌<◌, true, false, List, [], ◌∷◌, ◌++◌, length, slice_get, slice_set, Option, Some, None, IsSome, Result, Ok, Err}
use Rattle.page_map.specs.declared.pages.Mode.{Mode}
use Rattle.page_map.specs.declared.pages.Mode.TheVariants as modes
use Rattle.page_map.specs.declared.ranges.LogEntry.{LogEntry}
use Rattle.page_map.specs.declared.ranges.LogEntry.TheVariants as entries
use Rattle.page_map.specs.declared.ranges.Placed.{Placed}
use Rattle.page_map.specs.Board.{MapView, Hands, log_at}
use Rattle.page_map.specs.Logs.{is_writable, placed_at}
use Rattle.range_tree.specs.Logs.{is_live}
use Rattle.guest_wire.specs.Keeps.{Begins}
use Rattle.range_tree.specs.Ranges.{range_count, moved_of, pins_on, pinned_in, with_pin, is_enough, IsAtLeast, IsMapped}
use Rattle.guest_dax.specs.Stands.{Stand, KeepsMap}
use Rattle.guest_dax.specs.Reclaims.{Caused}
use Rattle.guest_dax.specs.declared.pins.Pinned.{Pinned}
use Rattle.guest_dax.specs.declared.refusals.DaxRefusal.{DaxRefusal}

-- the hands with one more pin on a range, which move this one
abbrev pub with_one : MapView → ℕ → Option ℕ → Hands
with_one v range moves = record v.hands { moves = moves; pins = slice_set v.hands.pins range (pins_on v range + 1) }

-- this entry of a log places a chunk in a range
abbrev pub PlacesIn : List LogEntry → ℕ → ℕ → ℕ → Type 0
PlacesIn log entry chunk range = (mode : Mode) × (slice_get log entry ≡ Some (entries.Place chunk range mode))

-- A range is pinned, through an entry that places the chunk there and was live with this mode when the log was as long as is seen now. Under the pin the range is known to be mapped to the chunk, with a mode that is enough.
pub record IsPin (new : MapView) (file chunk : ℕ) (mode : Mode) (p : Pinned) : Type 0 where
  pub live : is_live (is_writable mode) (log_at new file) chunk p.through.entry p.through.upto ≡ true
  pub upto : p.through.upto ≡ length (log_at new file)
  pub entry : PlacesIn (log_at new file) p.through.entry chunk p.range
  pub range : p.range < range_count new
  pub had : 0 < pins_on new p.range
  pub pinned : IsAtLeast (record { file = file; chunk = chunk; mode = mode }) (pinned_in new p.range)

-- what is placed has a mode that is enough, if anything is placed
unfoldable pub IsEnoughPlaced : Mode → Option Placed → Type 0
IsEnoughPlaced mode None = Unit {0}
IsEnoughPlaced mode (Some p) = is_enough mode p.mode ≡ true

-- a chunk is placed so that it may be read and not written
pub record IsReadOnly (log : List LogEntry) (chunk range : ℕ) : Type 0 where
  pub entry : ℕ
  pub placed : placed_at log chunk ≡ Some (record { range = range; mode = modes.R; entry = entry })

-- the same in some range
abbrev pub IsSomeReadOnly : List LogEntry → ℕ → Type 0
IsSomeReadOnly log chunk = (range : ℕ) × IsReadOnly log chunk range

-- What `pin_chunk` answers and leaves. None comes exactly where the tree hadn't the chunk.
abbrev pub PinsChunk : Stand → ℕ → ℕ → Mode → Result (Option Pinned) DaxRefusal → Stand → Type 0
PinsChunk old file chunk mode (Ok None) new = (new.map.hands ≡ old.map.hands) × (placed_at (log_at new.map file) chunk ≡ None)
PinsChunk old file chunk mode (Ok (Some p)) new = (new.map.hands ≡ with_one old.map p.range old.map.hands.moves) × IsPin new.map file chunk mode p
PinsChunk old file chunk mode (Err e) new = (new.map.hands ≡ old.map.hands) × Caused old e new

-- the same under the tree, which has the chunk or hasn't
abbrev pub PinsPlaced : Stand → ℕ → ℕ → Mode → Result (Option Pinned) DaxRefusal → Stand → Type 0
PinsPlaced old file chunk mode (Ok None) new = (new.map.hands ≡ old.map.hands) × (placed_at (log_at new.map file) chunk ≡ None) × (placed_at (log_at old.map file) chunk ≡ None)
PinsPlaced old file chunk mode (Ok (Some p)) new = (new.map.hands ≡ with_one old.map p.range old.map.hands.moves) × IsPin new.map file chunk mode p
PinsPlaced old file chunk mode (Err e) new = (new.map.hands ≡ old.map.hands) × Caused old e new

-- what `place` answers and leaves: nothing is moved any more
abbrev pub Places : Stand → ℕ → ℕ → Mode → Result Pinned DaxRefusal → Stand → Type 0
Places old file chunk mode (Ok p) new = (new.map.hands ≡ with_one old.map p.range None) × IsPin new.map file chunk mode p
Places old file chunk mode (Err e) new = (new.map.hands ≡ record old.map.hands { moves = None }) × Caused old e new

-- the log has one upgrade more, of the range in which the chunk is placed for reading
pub record IsUpgraded (old new : MapView) (file chunk : ℕ) : Type 0 where
  pub range : ℕ
  pub read_only : IsReadOnly (log_at old file) chunk range
  pub grown : log_at new file ≡ log_at old file ++ entries.Upgrade range ∷ []

-- What `upgrade_chunk` answers and leaves: the chunk may be written, in the same range through the same entry; or no log has changed.
abbrev pub UpgradesChunk : Stand → ℕ → ℕ → Result (Unit {0}) DaxRefusal → Stand → Type 0
UpgradesChunk old file chunk (Ok u) new = (new.map.hands ≡ old.map.hands) × IsUpgraded old.map new.map file chunk
UpgradesChunk old file chunk (Err e) new = (new.map.hands ≡ old.map.hands) × (new.map.ranges.logs ≡ old.map.ranges.logs) × Caused old e new

-- a pin under the tree
abbrev pub PinsFound : MapView → ℕ → ℕ → Mode → Option Pinned → MapView → Type 0
PinsFound old file chunk mode None new = (new ≡ old) × (placed_at (log_at old file) chunk ≡ None)
PinsFound old file chunk mode (Some p) new = (new ≡ with_pin old p.range) × (log_at new file ≡ log_at old file) × IsPin new file chunk mode p × KeepsMap old new

-- what a SETUPMAPPING and a look at the map leave of a board
pub record MapsRest (old new : MapView) : Type 0 where
  pub hands : new.hands ≡ old.hands
  pub logs : new.ranges.logs ≡ old.ranges.logs
  pub pinned : new.ranges.pinned ≡ old.ranges.pinned
  pub looks : new.ranges.looks ≡ old.ranges.looks
  pub sweeps : new.ranges.sweeps ≡ old.ranges.sweeps
  pub rounds : new.ranges.rounds ≡ old.ranges.rounds

-- a range is mapped to a chunk of a file, or the request was refused
abbrev pub Maps : Stand → ℕ → ℕ → ℕ → Mode → Result (Unit {0}) DaxRefusal → Stand → Type 0
Maps old file chunk range mode (Ok u) new = MapsRest old.map new.map × IsMapped new.map range (Some (record { file = file; chunk = chunk; mode = mode }))
Maps old file chunk range mode (Err e) new = MapsRest old.map new.map × Caused old e new

-- which range is to be upgraded
abbrev pub Needs : Mode → Option Placed → Option ℕ → Type 0
Needs mode found (Some range) = (mode ≡ modes.W) × ((entry : ℕ) × (found ≡ Some (record { range = range; mode = modes.R; entry = entry })))
Needs mode found None = IsEnoughPlaced mode found

-- What is placed of the chunk, if anything, has a mode that is enough, and nothing is placed only where nothing was; or the upgrade was refused.
abbrev pub MakesEnough : Stand → ℕ → ℕ → Mode → Result (Unit {0}) DaxRefusal → Stand → Type 0
MakesEnough old file chunk mode (Ok u) new = (new.map.hands ≡ old.map.hands) × IsEnoughPlaced mode (placed_at (log_at new.map file) chunk) × (placed_at (log_at new.map file) chunk ≡ None → placed_at (log_at old.map file) chunk ≡ None)
MakesEnough old file chunk mode (Err e) new = (new.map.hands ≡ old.map.hands) × Caused old e new

-- the moved range is settled with the chunk, or is still moved
abbrev pub Fills : Stand → ℕ → ℕ → Mode → Result (Unit {0}) DaxRefusal → Stand → Type 0
Fills old file chunk mode (Ok u) new = (new.map.hands ≡ record old.map.hands { moves = None }) × IsSome (placed_at (log_at new.map file) chunk) × IsEnoughPlaced mode (placed_at (log_at new.map file) chunk)
Fills old file chunk mode (Err e) new = (new.map.hands ≡ old.map.hands) × Caused old e new

-- a pin goes through the placement of a chunk at the end of a log, in its range
pub record IsThrough (log : List LogEntry) (chunk : ℕ) (p : Pinned) : Type 0 where
  pub mode : Mode
  pub placed : placed_at log chunk ≡ Some (record { range = p.range; mode = mode; entry = p.through.entry })

-- a placement of a chunk in a range was added to a log, and a pin goes through it
pub record IsPlacedIn (log : List LogEntry) (chunk range : ℕ) (mode : Mode) (p : Pinned) (now : List LogEntry) : Type 0 where
  pub grown : now ≡ log ++ entries.Place chunk range mode ∷ []
  pub in_range : p.range ≡ range
  pub entry : p.through.entry ≡ length log
  pub upto : p.through.upto ≡ length now

-- What was seen of a file's log when its tree was entered. Where the chunk wasn't placed there, it was placed in the range that was moved.
pub record IsPlacedMoved (old new : MapView) (file chunk : ℕ) (mode : Mode) (p : Pinned) : Type 0 where
  pub more : List LogEntry
  pub alone : old.ranges.others ≡ false → more ≡ []
  pub seen : Begins (log_at old file ++ more) (log_at new file)
  pub placed : placed_at (log_at old file ++ more) chunk ≡ None → IsPlacedIn (log_at old file ++ more) chunk (moved_of old) mode p (log_at new file)
