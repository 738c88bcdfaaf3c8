-- The holds of a guest: what they have in hand, and what the calls on them answer and leave.
use Rattle.std.specs.Prelude.{◌≡◌, ℕ, ◌+◌, ◌*◌, ◌<◌, ◌≤◌, ◌==◌, min, sum, true, false, List, [], ◌∷◌, length, replicate, slice_get, slice_index_or, slice_set, IsSome, Option, Some, None, Result, Ok, Err, if◌then◌else◌}
use Rattle.plain_file.specs.Counts.{Rose}
use Rattle.plain_file.specs.declared.operations.Op.{Op}
use Rattle.plain_file.specs.declared.operations.Op.TheVariants as ops
use Rattle.plain_file.specs.declared.operations.Way.TheVariants as ways
use Rattle.plain_file.specs.Board.{Note, BoardView, file_at, size_of}
use Rattle.plain_file.specs.Turns.{leases_on, unleased}
use Rattle.page_map.specs.declared.pages.Mode.{Mode}
use Rattle.page_map.specs.Window.{range_size}
use Rattle.page_map.specs.Board.{MapView, log_at, known_files}
use Rattle.range_tree.specs.Ranges.{range_count, pins_on, pinned_in, unpinned}
use Rattle.guest_wire.specs.Wires.{KeepsWire}
use Rattle.guest_wire.specs.Keeps.{Begins}
use Rattle.guest_dax.specs.Stands.{Stand}
use Rattle.guest_dax.specs.Looks.{NoLooks}
use Rattle.guest_dax.specs.Pinning.{PlacesIn}
use Rattle.guest_io.specs.declared.calls.Done.{Done}
use Rattle.guest_io.specs.declared.calls.Held.{Held}
use Rattle.guest_io.specs.declared.calls.Refusal.{Refusal}
use Rattle.guest_io.specs.declared.calls.Refusal.TheVariants as refusals
use Rattle.guest_io.specs.declared.guest.Granted.{Granted}
use Rattle.guest_io.specs.declared.guest.Holds.{Holds}
use Rattle.guest_io.specs.Calls.{Directs, KeepsFloor, IsThrough}
use Rattle.guest_io.specs.Notes.{SameNotes, IsOpenNote}
use Rattle.guest_io.specs.Requests.{IsUndone}
use Rattle.guest_io.specs.Going.{IsBusy}

-- the most holds that a guest may ask for
abbrev pub max_holds : ℕ
max_holds = 32

-- what a guest has of the hold of this number; nothing where it was refused, is released, or wasn't asked for
abbrev pub granted_at : Holds → ℕ → Option Granted
granted_at h hold = slice_index_or h.slots hold None

-- the file's byte at which a hold's chunk begins
abbrev pub start_of : Granted → ℕ
start_of g = range_size * g.chunk

-- ---- what holds have in hand

-- how many of them are granted, how many on a file, and how many in a range
unfoldable pub count_of : List (Option Granted) → ℕ
count_of [] = 0
count_of (None ∷ gs) = count_of gs
count_of (Some g ∷ gs) = 1 + count_of gs

unfoldable pub leases_of : ℕ → List (Option Granted) → ℕ
leases_of file [] = 0
leases_of file (None ∷ gs) = leases_of file gs
leases_of file (Some g ∷ gs) = (if g.file == file then 1 else 0) + leases_of file gs

unfoldable pub pins_of : ℕ → List (Option Granted) → ℕ
pins_of range [] = 0
pins_of range (None ∷ gs) = pins_of range gs
pins_of range (Some g ∷ gs) = (if g.pinned.range == range then 1 else 0) + pins_of range gs

-- A granted hold's pair is live for its chunk and its mode, its entry places the chunk in the hold's range, and the range is known to show the chunk.
pub record IsHold (s : Stand) (g : Granted) : Type 0 where
  pub file : g.file < length s.files.files
  pub chunk : g.chunk < 32
  pub through : IsThrough (log_at s.map g.file) g.chunk g.mode g.pinned.through
  pub upto : g.pinned.through.upto ≤ length (log_at s.map g.file)
  pub entry : PlacesIn (log_at s.map g.file) g.pinned.through.entry g.chunk g.pinned.range
  pub range : g.pinned.range < range_count s.map
  pub pinned : (pinned_in s.map g.pinned.range).file ≡ g.file
  pub shown : (pinned_in s.map g.pinned.range).chunk ≡ g.chunk
  pub end : g.end ≤ range_size * (g.chunk + 1)

-- A guest has its holds, and nothing else is pinned or leased: one pin and one lease each.
pub record HasHolds (s : Stand) (h : Holds) : Type 0 where
  pub asked : h.asked ≤ max_holds
  pub slots : length h.slots ≡ max_holds
  pub behind : (n : ℕ) → h.asked ≤ n → granted_at h n ≡ None
  pub each : (n : ℕ) (g : Granted) → granted_at h n ≡ Some g → IsHold s g
  pub leases : (file : ℕ) → leases_on s.files file ≡ leases_of file h.slots
  pub pins : (range : ℕ) → pins_on s.map range ≡ pins_of range h.slots
  pub all_leases : sum s.files.hands.leases ≡ count_of h.slots
  pub all_pins : sum s.map.hands.pins ≡ count_of h.slots

-- no hold was asked for
abbrev pub no_holds : Holds
no_holds = record { asked = 0; slots = replicate max_holds None }

-- ---- what calls on holds leave

-- A board of files stays what it is, but for its leases. Its files have the same first contents.
pub record RestsBoard (old new : BoardView) : Type 0 where
  pub guest : new.guest ≡ old.guest
  pub plain : new.plain ≡ old.plain
  pub over : new.over ≡ old.over
  pub may_lease : new.may_lease ≡ old.may_lease
  pub others : new.others ≡ old.others
  pub turn : new.hands.turn ≡ old.hands.turn
  pub bar : new.hands.bar ≡ old.hands.bar
  pub count : length new.files ≡ length old.files
  pub firsts : (file : ℕ) → (file_at new file).first ≡ (file_at old file).first

-- A board of ranges stays what it is, but for its pins. What it has seen of the logs grows.
pub record RestsMap (old new : MapView) : Type 0 where
  pub plain : new.plain ≡ old.plain
  pub over : new.over ≡ old.over
  pub guest : new.ranges.guest ≡ old.ranges.guest
  pub may_take : new.ranges.may_take ≡ old.ranges.may_take
  pub others : new.ranges.others ≡ old.ranges.others
  pub tree : new.hands.tree ≡ old.hands.tree
  pub moves : new.hands.moves ≡ old.hands.moves
  pub pages : length new.table ≡ length old.table
  pub count : range_count new ≡ range_count old
  pub files : known_files new ≡ known_files old
  pub logs : (file : ℕ) → Begins (log_at old file) (log_at new file)

-- Whatever a call answers: the wire and both boards stay what they are, but for what is pinned and leased; and what was seen of logs has only grown.
pub record LeavesRest (old new : Stand) : Type 0 where
  pub wire : KeepsWire old.wire new.wire
  pub files : RestsBoard old.files new.files
  pub map : RestsMap old.map new.map

-- no history has an entry more, no entry more is the board's own, and what was noted stays so
pub record SameEntries (old new : BoardView) : Type 0 where
  pub history : (file : ℕ) → (file_at new file).history ≡ (file_at old file).history
  pub own : (file : ℕ) → (file_at new file).own ≡ (file_at old file).own
  pub notes : (file : ℕ) → SameNotes (file_at old file) (file_at new file)

-- ---- asking for a hold

-- the holds after one more was asked for, and refused
abbrev pub refused_one : Holds → Holds
refused_one h = record h { asked = h.asked + 1 }

-- the holds after one more was granted
abbrev pub granted_one : Holds → Granted → Holds
granted_one h g = record { asked = h.asked + 1; slots = slice_set h.slots h.asked (Some g) }

-- the size is noted of the file, by a board that keeps notes, of a length that it had seen
abbrev pub IsNoted : BoardView → ℕ → ℕ → BoardView → Type 0
IsNoted old file z new = (i : ℕ) × (note : Note) × (slice_get (file_at new file).notes i ≡ Some note) × (note.size ≡ z) × (note.lower ≡ length (file_at old file).history)

-- A hold is granted. Its pair is live for the chunk and the mode, and its end is the lesser of the chunk's end and the size that was noted under its lease: on a plain board the file's, on one over a table that of the file at some moment.
pub record IsGranted (old : Stand) (h : Holds) (of_file of_chunk : ℕ) (of_mode : Mode) (held : Held) (new : Stand) (k : Holds) : Type 0 where
  pub granted : Granted
  pub holds : k ≡ granted_one h granted
  pub file : granted.file ≡ of_file
  pub chunk : granted.chunk ≡ of_chunk
  pub mode : granted.mode ≡ of_mode
  pub through : granted.pinned.through ≡ held.through
  pub end : granted.end ≡ held.end
  pub live : IsThrough (log_at new.map of_file) of_chunk of_mode held.through
  pub noted : ℕ
  pub lesser : held.end ≡ min (range_size * (of_chunk + 1)) noted
  pub floor : (file_at new.files of_file).floor ≡ Some noted
  pub plain : old.files.plain ≡ true → noted ≡ size_of (file_at old.files of_file)
  pub kept : IsSome old.files.over → IsNoted old.files of_file noted new.files
  pub open_note : old.wire.honest ≡ true → IsSome old.files.over → IsOpenNote old.files of_file noted new.files

-- nothing more is pinned or leased than before, and the refused hold has its number
pub record IsNotGranted (old : Stand) (h : Holds) (new : Stand) (k : Holds) : Type 0 where
  pub holds : k ≡ refused_one h
  pub leases : new.files.hands ≡ old.files.hands
  pub pins : new.map.hands ≡ old.map.hands

-- What `hold` answers.
abbrev pub AsksHold : Stand → Holds → ℕ → ℕ → Mode → Result Held Refusal → Stand → Holds → Type 0
AsksHold old h file chunk mode (Ok held) new k = NoLooks new.map × IsGranted old h file chunk mode held new k
AsksHold old h file chunk mode (Err (refusals.Busy looked)) new k = IsNotGranted old h new k × IsBusy old.map file (range_size * chunk) range_size looked new.map
AsksHold old h file chunk mode (Err (refusals.Errno number)) new k = IsNotGranted old h new k × NoLooks new.map × (old.wire.honest ≡ false)
AsksHold old h file chunk mode (Err (refusals.BadReply bytes)) new k = IsNotGranted old h new k × NoLooks new.map × (old.wire.honest ≡ false)
AsksHold old h file chunk mode (Err refusals.WireFault) new k = IsNotGranted old h new k × NoLooks new.map × (old.wire.honest ≡ false) × Rose old.wire.faults new.wire.faults
AsksHold old h file chunk mode (Err refusals.Memory) new k = IsNotGranted old h new k × NoLooks new.map
AsksHold old h file chunk mode (Err e) new k = ⊥

-- ---- loads and stores

-- an access of so many bytes at an offset of a granted hold, which ends within it or above its end
pub record IsWithin (h : Holds) (hold off len : ℕ) (g : Granted) : Type 0 where
  pub granted : granted_at h hold ≡ Some g
  pub end : start_of g + off + len ≤ g.end

pub record IsPast (h : Holds) (hold off len told : ℕ) : Type 0 where
  pub hold_of : Granted
  pub granted : granted_at h hold ≡ Some hold_of
  pub end : told ≡ hold_of.end
  pub past : hold_of.end < start_of hold_of + off + len

-- what is found of a hold for an access
abbrev pub FindsHold : Holds → ℕ → ℕ → ℕ → Result Granted Refusal → Type 0
FindsHold h hold off len (Ok g) = IsWithin h hold off len g
FindsHold h hold off len (Err (refusals.NoHold number)) = (number ≡ hold) × (granted_at h hold ≡ None)
FindsHold h hold off len (Err (refusals.Past end)) = IsPast h hold off len end
FindsHold h hold off len (Err e) = ⊥

-- what goes through a hold, by where it begins in the file
abbrev pub loads : ℕ → ℕ → Op
loads len at = ops.Read at len

abbrev pub stores : List ℕ → ℕ → Op
stores bytes at = ops.Write at bytes

-- What an operation through a hold's pair answers: one entry; or none, after want of memory.
abbrev pub GoesHeld : BoardView → Granted → ℕ → Op → Result Done Refusal → BoardView → Type 0
GoesHeld old g call op (Ok d) new = Directs old g.file call (ways.Via g.pinned.through None) op d new × KeepsFloor old g.file d new
GoesHeld old g call op (Err refusals.Memory) new = IsUndone old g.file new
GoesHeld old g call op (Err e) new = ⊥

-- What a load or a store answers: one entry through the hold's pair; or why not, and then nothing has changed, but that after want of memory others' entries may be seen.
abbrev pub AccessesHold : Stand → Holds → ℕ → ℕ → ℕ → ℕ → (ℕ → Op) → Result Done Refusal → Stand → Type 0
AccessesHold old h call hold off len op (Ok d) new = (g : Granted) × IsWithin h hold off len g × Directs old.files g.file call (ways.Via g.pinned.through None) (op (start_of g + off)) d new.files × KeepsFloor old.files g.file d new.files
AccessesHold old h call hold off len op (Err (refusals.NoHold number)) new = (number ≡ hold) × (granted_at h hold ≡ None) × (new ≡ old)
AccessesHold old h call hold off len op (Err (refusals.Past end)) new = IsPast h hold off len end × (new ≡ old)
AccessesHold old h call hold off len op (Err refusals.Memory) new = (g : Granted) × IsWithin h hold off len g × IsUndone old.files g.file new.files
AccessesHold old h call hold off len op (Err e) new = ⊥

-- ---- releases

-- the holds without this one
abbrev pub released_one : Holds → ℕ → Holds
released_one h hold = record h { slots = slice_set h.slots hold None }

-- the stand without a hold's pin and lease
abbrev pub given_back : Stand → Granted → Stand
given_back s g = record s { files = unleased s.files g.file; map = unpinned s.map g.pinned.range }

-- What `release` answers: the hold's pin and its lease were given back; or there is no such hold, and nothing has changed.
abbrev pub ReleasesHold : Stand → Holds → ℕ → Result (Unit {0}) Refusal → Stand → Holds → Type 0
ReleasesHold old h hold (Ok u) new k = (g : Granted) × (granted_at h hold ≡ Some g) × (new ≡ given_back old g) × (k ≡ released_one h hold)
ReleasesHold old h hold (Err (refusals.NoHold number)) new k = (number ≡ hold) × (granted_at h hold ≡ None) × (new ≡ old) × (k ≡ h)
ReleasesHold old h hold (Err e) new k = ⊥
