-- The device as one that changes bytes, sizes and mappings alone: it makes, names, opens and closes nothing, so that it stays as it is.
use Rattle.std.specs.Prelude.{◌≡◌, ◌≢◌, ℕ, ◌-◌, ◌≤◌, ◌==◌, Bool, true, false, ◌&&◌, not, nat_lt, List, [], length, is_some, Option, Some, None, Result, Ok, Err, if◌then◌else◌}
use Rattle.fuse_codec.specs.Opcodes.{opcode_of}
use Rattle.fuse_codec.specs.Reading.{write_of, message_of}
use Rattle.fuse_codec.specs.declared.errors.BadRequest.{BadRequest}
use Rattle.fuse_codec.specs.declared.messages.Message.{Message}
use Rattle.fuse_codec.specs.declared.messages.Request.{Request}
use Rattle.fuse_codec.specs.declared.messages.Request.TheVariants as asks
use Rattle.fuse_codec.specs.declared.opcodes.Opcode.{Opcode}
use Rattle.fuse_codec.specs.declared.opcodes.Opcode.TheVariants as opcodes
use Rattle.fuse_wire.specs.Attributes.{getattr_in_of, setattr_in_of}
use Rattle.fuse_wire.specs.Records.{read_in_of}
use Rattle.fuse_wire.specs.declared.records.InHeader.{InHeader}
use Rattle.fuse_wire.specs.declared.errno.Errno.TheVariants.{ENOSYS}
use Rattle.page_map.specs.Board.{MapView}
use Rattle.plain_file.specs.Board.{BoardView, IsReady}
use Rattle.fuse_device.specs.State.{State, World}
use Rattle.fuse_device.specs.Checks.{Outcome, is_known, refuse}
use Rattle.fuse_device.specs.Requests.{answered}
use Rattle.fuse_device.specs.Steps.{Step, errno_of, replied, judged_message, is_forget_number, header_at}

-- the requests that are carried out
unfoldable pub is_data : Request → Bool
is_data (asks.Getattr r) = true
is_data (asks.Setattr r) = true
is_data (asks.Read r) = true
is_data (asks.Write r bytes) = true
is_data (asks.Fsync r) = true
is_data (asks.Flush r) = true
is_data (asks.Setup r) = true
is_data (asks.Remove ones) = true
is_data request = false

-- what one of these means once the session is started; the others are refused
abbrev pub data_answered : World → ℕ → Request → Outcome
data_answered w node q = refuse (not (is_data q)) ENOSYS w (answered w node q)

-- The others are refused before the session and the room for the reply are judged.
unfoldable pub data_judged_message : World → ℕ → Message → Outcome
data_judged_message w room m = refuse (not (is_data m.body)) ENOSYS w (judged_message w room m)

-- what is no request is refused before all else
abbrev pub data_judged : World → ℕ → Result Message BadRequest → Outcome
data_judged w room (Err bad) = (Err (errno_of bad), w)
data_judged w room (Ok m) = data_judged_message w room m

-- One step. No bytes are answered where there is no whole header, to a forget, and where there is no room for a
-- reply's header.
unfoldable pub data_step : World → List ℕ → ℕ → Step
data_step w readable room =
    if nat_lt (length readable) 40 then (w, [])
    else if is_forget_number (header_at readable).opcode then (w, [])
    else if nat_lt room 16 then (w, [])
    else replied (header_at readable).unique (data_judged w room (message_of readable))

-- ---- the file whose turn a chain needs

-- a request for a file's bytes or attributes
unfoldable pub is_on_file : Request → Bool
is_on_file (asks.Getattr r) = true
is_on_file (asks.Setattr r) = true
is_on_file (asks.Read r) = true
is_on_file (asks.Write r bytes) = true
is_on_file request = false

-- the body of such a request, by its operation
unfoldable pub is_file_body : Opcode → List ℕ → Bool
is_file_body opcodes.Getattr body = is_some (getattr_in_of body)
is_file_body opcodes.Setattr body = is_some (setattr_in_of body)
is_file_body opcodes.Read body = is_some (read_in_of body)
is_file_body opcodes.Write body = is_some (write_of body)
is_file_body opcode body = false

-- the same, where an operation has the number
abbrev pub is_body_on_file : Option Opcode → List ℕ → Bool
is_body_on_file None body = false
is_body_on_file (Some k) body = is_file_body k body

-- the number of a known file's node
abbrev pub file_of : State → ℕ → Option ℕ
file_of s node = if not (node == 1) && is_known s node then Some (node - 2) else None

-- the file that a header and the body after it name
abbrev pub named_in : State → InHeader → List ℕ → Option ℕ
named_in s h body = if is_body_on_file (opcode_of h.opcode) body then file_of s h.nodeid else None

-- the file that such a request names, where bytes are one
abbrev pub file_in : State → Result Message BadRequest → Option ℕ
file_in s (Err bad) = None
file_in s (Ok m) = if is_on_file m.body then file_of s m.head.nodeid else None

-- the file that the bytes of a chain name
unfoldable pub named_file : State → List ℕ → Option ℕ
named_file s readable = file_in s (message_of readable)

-- ---- what is asked of the boards

-- The board has every made file, and the node's is ready, where it is a known file's.
pub record HasFile (s : State) (v : BoardView) (node : ℕ) : Type 0 where
  pub there : length s.made ≤ length v.files
  pub ready : node ≢ 1 → is_known s node ≡ true → IsReady v (node - 2)

-- The boards are those of the device, and the file that the request is on is ready, where it is on one.
pub record CanServeData (s : State) (files : BoardView) (map : MapView) (node : ℕ) (q : Request) : Type 0 where
  pub file : is_on_file q ≡ true → HasFile s files node
  pub pages : length map.table ≡ s.pages

-- The boards are those of the device, and the file that the chain names is ready, where it names one.
pub record CanStepData (s : State) (files : BoardView) (map : MapView) (readable : List ℕ) : Type 0 where
  pub there : length s.made ≤ length files.files
  pub pages : length map.table ≡ s.pages
  pub ready : (file : ℕ) → named_file s readable ≡ Some file → IsReady files file
