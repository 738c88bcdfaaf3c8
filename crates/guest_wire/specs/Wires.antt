-- What a wire means, and what a submit may give and leave.
use Rattle.std.specs.Prelude.{◌≡◌, ℕ, ◌≤◌, Bool, true, false, List, length, Option, Some, None, Result, Ok, Err, ◌⊎◌, if◌then◌else◌}
use Rattle.plain_file.specs.Board.{BoardView}
use Rattle.plain_file.specs.Counts.{Rose}
use Rattle.plain_file.specs.Turns.{AreOthers, entered, left}
use Rattle.plain_file.specs.declared.operations.Entry.{Entry}
use Rattle.page_map.specs.Board.{MapView}
use Rattle.fuse_device.specs.State.{State, World}
use Rattle.fuse_device.specs.Steps.{Step, device_step}
use Rattle.fuse_device.specs.DataSteps.{data_step, named_file}
use Rattle.fuse_device.specs.Promises.{CanStep, world}
use Rattle.guest_wire.specs.declared.wires.WireError.{WireError}
use Rattle.guest_wire.specs.declared.wires.WireError.TheVariants as errors

-- a wire
pub record WireView : Type 0 where
  -- whether it hands each request to a daemon, and what the daemon answers back
  pub honest : Bool
  -- the numbers and names by which the table is known that it stands over, where it stands over one
  pub over : Option (List ℕ)
  -- how often it failed
  pub faults : ℕ
  -- Whether the daemon of an honest wire stays as it is, and serves bytes, sizes and mappings alone. Such a wire takes
  -- the turn of the file that a request names, and gives it back. Otherwise it is the whole daemon, and takes no turn.
  pub stays : Bool
  -- what the daemon holds
  pub state : State

-- the boards that a wire works on
pub record Boards : Type 0 where
  pub files : BoardView
  pub map : MapView

-- two boards
abbrev pub boards : BoardView → MapView → Boards
boards files map = record { files = files; map = map }

-- what is submitted: the readable part, and how many bytes may be answered
pub record Sent : Type 0 where
  pub bytes : List ℕ
  pub room : ℕ

-- a readable part and a room
abbrev pub sending : List ℕ → ℕ → Sent
sending bytes room = record { bytes = bytes; room = room }

-- the daemon of a wire with its boards
abbrev pub world_at : WireView → Boards → World
world_at w b = world w.state b.files b.map

-- ---- what is asked of the boards

-- The boards are those of a daemon that stays as it is, and no turn is had.
pub record CanShare (s : State) (b : Boards) : Type 0 where
  pub there : length s.made ≤ length b.files.files
  pub pages : length b.map.table ≡ s.pages
  pub free : b.files.hands.turn ≡ None

-- the boards serve the request, by whether the daemon stays as it is
abbrev pub Serves : Bool → State → Boards → List ℕ → Type 0
Serves true s b readable = CanShare s b
Serves false s b readable = CanStep s b.files b.map readable

-- the boards serve the request, where the wire is honest
abbrev pub CanSubmit : WireView → Boards → List ℕ → Type 0
CanSubmit w b readable = w.honest ≡ true → Serves w.stays w.state b readable

-- the wire is honest or not as before, stands over the same, and its daemon stays as it is or not; its count of faults never falls
pub record KeepsWire (old new : WireView) : Type 0 where
  pub honest : new.honest ≡ old.honest
  pub over : new.over ≡ old.over
  pub stays : new.stays ≡ old.stays
  pub later : old.faults ≤ new.faults

-- ---- what an honest wire does

-- the file whose turn the wire takes for a request
unfoldable pub turn_for : WireView → List ℕ → Option ℕ
turn_for w readable = if w.stays then named_file w.state readable else None

-- the boards with the turn of a file, of which they get to see more entries
unfoldable pub with_turn : Option ℕ → World → List Entry → World
with_turn None w more = w
with_turn (Some file) w more = record w { files = entered w.files file more }

-- the boards after the turn was given back
unfoldable pub without_turn : Option ℕ → World → World
without_turn None w = w
without_turn (Some file) w = record w { files = left w.files file }

-- the step that the daemon makes
abbrev pub step_of : Bool → World → Sent → Step
step_of stays w sent = if stays then data_step w sent.bytes sent.room else device_step w sent.bytes sent.room

-- The request was carried out and answered these bytes: on the boards as they are when the turn is had, after others' entries were seen, of which there are none on plain boards.
pub record IsCarried (w : WireView) (old : World) (sent : Sent) (bytes : List ℕ) (new : World) : Type 0 where
  pub more : List Entry
  pub others : AreOthers old.files more
  pub served : World
  pub step : step_of w.stays (with_turn (turn_for w sent.bytes) old more) sent ≡ (served, bytes)
  pub left : new ≡ without_turn (turn_for w sent.bytes) served

-- The request wasn't carried out, but the turn was had, and others' entries were seen.
pub record IsSeen (w : WireView) (old : World) (sent : Sent) (new : World) : Type 0 where
  pub more : List Entry
  pub others : AreOthers old.files more
  pub left : new ≡ without_turn (turn_for w sent.bytes) (with_turn (turn_for w sent.bytes) old more)

-- What an honest wire answers and leaves. It never fails, and after want of memory the request was carried out or not.
abbrev pub Honest : WireView → World → Sent → Result (List ℕ) WireError → World → Type 0
Honest w old sent (Ok bytes) new = IsCarried w old sent bytes new
Honest w old sent (Err errors.Memory) new = (new ≡ old) ⊎ IsSeen w old sent new ⊎ ((bytes : List ℕ) × IsCarried w old sent bytes new)
Honest w old sent (Err errors.Fault) new = ⊥

-- a fault comes only where the count of faults rose
abbrev pub HasCause : ℕ → Result (List ℕ) WireError → ℕ → Type 0
HasCause before result now = result ≡ Err errors.Fault → Rose before now

-- ---- the whole daemon

-- these bytes, the boards and the daemon are what the device's step gives
abbrev pub IsStep : World → Sent → List ℕ → World → Type 0
IsStep old sent bytes new = device_step old sent.bytes sent.room ≡ (new, bytes)

-- the request was carried out as the device's step, or not at all
abbrev pub IsStepOrNot : World → Sent → World → Type 0
IsStepOrNot old sent new = (new ≡ old) ⊎ (new ≡ (device_step old sent.bytes sent.room).0)
