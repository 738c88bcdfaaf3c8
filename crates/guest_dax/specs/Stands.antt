-- What the calls of a guest's ranges ask of the wire and the boards, and what they keep of them.
use Rattle.std.specs.Prelude.{◌≡◌, ℕ, ◌+◌, ◌*◌, ◌<◌, ◌≤◌, true, false, List, length, slice_get, slice_index_or, Option, Some, None, ◌⊎◌}
use Rattle.plain_file.specs.Board.{Note, FileView, BoardView, IsReady, file_at}
use Rattle.page_map.specs.declared.pages.Mode.{Mode}
use Rattle.page_map.specs.declared.pages.Span.{Span}
use Rattle.page_map.specs.Window.{range_size}
use Rattle.page_map.specs.Board.{MapView, log_at, known_files}
use Rattle.range_tree.specs.Ranges.{range_count, pins_on, pinned_in, IsAtLeast}
use Rattle.fuse_device.specs.OpenFiles.{HasOpenFile}
use Rattle.guest_wire.specs.Wires.{WireView, KeepsWire}
use Rattle.guest_wire.specs.Keeps.{Begins}
use Rattle.guest_wire.specs.declared.driver.FileRef.{FileRef}

-- a wire with both boards
pub record Stand : Type 0 where
  pub wire : WireView
  pub files : BoardView
  pub map : MapView

abbrev pub stand : WireView → BoardView → MapView → Stand
stand wire files map = record { wire = wire; files = files; map = map }

-- what stands for a file where there is none of that number
abbrev pub no_ref : FileRef
no_ref = record { node = 0; fh = 0 }

abbrev pub ref_at : List FileRef → ℕ → FileRef
ref_at refs file = slice_index_or refs file no_ref

-- a whole chunk of a file in a whole range
abbrev pub chunk_span : ℕ → ℕ → ℕ → Mode → Span
chunk_span file chunk range mode = record { node = file + 2; foffset = range_size * chunk; moffset = range_size * range; len = range_size; mode = mode }

-- ---- what is asked of them

-- The daemon of an honest wire has the files and the window of the boards, and its session is started. File i is node i + 2, with a handle that is open. The whole daemon wants each file ready.
pub record IsServing (s : Stand) (refs : List FileRef) : Type 0 where
  pub there : length s.wire.state.made ≤ length s.files.files
  pub pages : length s.map.table ≡ s.wire.state.pages
  pub started : s.wire.state.started ≡ true
  pub ready : s.wire.stays ≡ false → (file : ℕ) → file < length s.wire.state.made → IsReady s.files file
  pub nodes : (file : ℕ) → file < length refs → (ref_at refs file).node ≡ file + 2
  pub handles : (file : ℕ) → file < length refs → HasOpenFile s.wire.state (file + 2) (ref_at refs file).fh

-- There is a reference to each file of the file board, and these are the files of the range board, which may take ranges. No turn is had. An honest wire's daemon serves them.
pub record Stands (s : Stand) (refs : List FileRef) : Type 0 where
  pub refs_of : length refs ≡ length s.files.files
  pub logs : known_files s.map ≡ length s.files.files
  pub may_take : s.map.ranges.may_take ≡ true
  pub turn : s.files.hands.turn ≡ None
  pub serving : s.wire.honest ≡ true → IsServing s refs

-- ---- what is kept

-- A board of ranges stays what it is. What it has seen of the logs grows, no pin is given back, and what is known of pinned ranges stays.
pub record KeepsMap (old new : MapView) : Type 0 where
  pub plain : new.plain ≡ old.plain
  pub over : new.over ≡ old.over
  pub guest : new.ranges.guest ≡ old.ranges.guest
  pub may_take : new.ranges.may_take ≡ old.ranges.may_take
  pub others : new.ranges.others ≡ old.ranges.others
  pub pages : length new.table ≡ length old.table
  pub count : range_count new ≡ range_count old
  pub files : known_files new ≡ known_files old
  pub logs : (file : ℕ) → Begins (log_at old file) (log_at new file)
  pub pins : (range : ℕ) → pins_on old range ≤ pins_on new range
  pub pinned : (range : ℕ) → 0 < pins_on old range → IsAtLeast (pinned_in old range) (pinned_in new range)

-- A note stays, but that one without an upper end may get one.
pub record StaysNoted (n : Note) (kept : Option Note) : Type 0 where
  pub note : Note
  pub at : kept ≡ Some note
  pub size : note.size ≡ n.size
  pub lower : note.lower ≡ n.lower
  pub upper : (note.upper ≡ n.upper) ⊎ (n.upper ≡ None)

-- A file has the same first contents, the same size under leases and the same refused bars. Its history only grows, and so do the places of the board's own entries and its notes.
pub record StaysFile (old new : FileView) : Type 0 where
  pub first : new.first ≡ old.first
  pub history : Begins old.history new.history
  pub own : Begins old.own new.own
  pub floor : new.floor ≡ old.floor
  pub refusals : new.refusals ≡ old.refusals
  pub refused : new.refused ≡ old.refused
  pub notes : (k : ℕ) (n : Note) → slice_get old.notes k ≡ Some n → StaysNoted n (slice_get new.notes k)

-- A board of files stays what it is and has the same in hand, and so does each of its files.
pub record StaysFiles (old new : BoardView) : Type 0 where
  pub guest : new.guest ≡ old.guest
  pub mark : new.mark ≡ old.mark
  pub plain : new.plain ≡ old.plain
  pub over : new.over ≡ old.over
  pub may_lease : new.may_lease ≡ old.may_lease
  pub others : new.others ≡ old.others
  pub hands : new.hands ≡ old.hands
  pub count : length new.files ≡ length old.files
  pub each : (file : ℕ) → file < length old.files → StaysFile (file_at old file) (file_at new file)

-- nothing of the files and of the daemon has changed
pub record IsStill (old new : Stand) : Type 0 where
  pub files : new.files ≡ old.files
  pub state : new.wire.state ≡ old.wire.state

-- The wire and both boards stay what they are. Over an honest wire nothing of the files and of the daemon changes.
pub record Keeps (old new : Stand) : Type 0 where
  pub wire : KeepsWire old.wire new.wire
  pub files : StaysFiles old.files new.files
  pub still : old.wire.honest ≡ true → IsStill old new
  pub map : KeepsMap old.map new.map
