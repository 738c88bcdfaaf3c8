-- The requests of a driver, and what is asked of boards for them.
use Rattle.std.specs.Prelude.{◌≡◌, ℕ, ◌+◌, ◌-◌, ◌*◌, ◌^◌, ◌==◌, Bool, true, false, List, [], ◌∷◌, length, None, if◌then◌else◌}
use Rattle.fuse_wire.specs.declared.attributes.SetattrIn.{SetattrIn}
use Rattle.fuse_wire.specs.declared.mappings.RemoveOne.{RemoveOne}
use Rattle.fuse_wire.specs.declared.records.WriteIn.{WriteIn}
use Rattle.fuse_codec.specs.Grammar.{clean_message}
use Rattle.fuse_codec.specs.declared.messages.Head.{Head}
use Rattle.fuse_codec.specs.declared.messages.Message.{Message}
use Rattle.fuse_codec.specs.declared.messages.Request.{Request}
use Rattle.fuse_codec.specs.declared.messages.Request.TheVariants as asks
use Rattle.page_map.specs.Window.{range_size}
use Rattle.page_map.specs.declared.pages.Mode.{Mode}
use Rattle.page_map.specs.declared.pages.Mode.TheVariants as modes
use Rattle.fuse_device.specs.State.{State}
use Rattle.fuse_device.specs.Steps.{wanted_room}
use Rattle.fuse_device.specs.Promises.{CanServe}
use Rattle.guest_wire.specs.declared.driver.FileRef.{FileRef}
use Rattle.guest_wire.specs.Wires.{WireView, Boards, Sent, CanShare}

-- the number after this one: after the last u64 it is 1 again
abbrev pub next_number : ℕ → ℕ
next_number n = if n == 2 ^ 64 - 1 then 1 else n + 1

-- the head of a request with this number, about this node, from nobody in particular
abbrev pub head : ℕ → ℕ → Head
head unique node = record { unique = unique; nodeid = node; uid = 0; gid = 0; pid = 0 }

-- a request with this number, about this node
abbrev pub message : ℕ → ℕ → Request → Message
message unique node body = record { head = head unique node; body = body }

-- what is submitted of a message: its bytes, and the room that its reply wants
abbrev pub sent : Message → Sent
sent m = record { bytes = clean_message m; room = wanted_room m.body }

-- the boards serve this request, by whether the daemon stays as it is
abbrev pub ServesRequest : Bool → State → Boards → Request → Type 0
ServesRequest true s b q = CanShare s b
ServesRequest false s b q = CanServe s b.files b.map q

-- the boards serve this request, where the wire is honest
abbrev pub CanAsk : WireView → Boards → Request → Type 0
CanAsk w b q = w.honest ≡ true → ServesRequest w.stays w.state b q

-- ---- the requests

-- version 7.31, with bit 26 of the flags (FUSE_MAP_ALIGNMENT) where the window's alignment is asked for
abbrev pub init_request : Bool → Request
init_request ask_map = asks.Init (record { major = 7; minor = 31; max_readahead = 131072; flags = if ask_map then 2 ^ 26 else 0; flags2 = None })

-- an OPEN for reading and writing (O_RDWR)
abbrev pub open_request : Request
open_request = asks.OpenFile (record { flags = 2; open_flags = 0 })

-- the attributes of an open file: flag 1 (FUSE_GETATTR_FH) says that the handle counts
abbrev pub getattr_request : FileRef → Request
getattr_request at = asks.Getattr (record { getattr_flags = 1; fh = at.fh })

-- what sets the size of an open file: bits 3 (FATTR_SIZE) and 6 (FATTR_FH)
abbrev pub size_for : ℕ → ℕ → SetattrIn
size_for fh size = record {
  valid = 72;
  fh = fh;
  size = size;
  lock_owner = 0;
  atime = 0;
  mtime = 0;
  ctime = 0;
  atimensec = 0;
  mtimensec = 0;
  ctimensec = 0;
  mode = 0;
  uid = 0;
  gid = 0;
}

-- a size for an open file
abbrev pub setattr_request : FileRef → ℕ → Request
setattr_request at size = asks.Setattr (size_for at.fh size)

-- bytes of an open file
abbrev pub read_request : FileRef → ℕ → ℕ → Request
read_request at off len = asks.Read (record { fh = at.fh; offset = off; size = len; read_flags = 0; lock_owner = 0; flags = 0 })

-- where a WRITE begins, and how long it is
abbrev pub write_at : ℕ → ℕ → ℕ → WriteIn
write_at fh off size = record { fh = fh; offset = off; size = size; write_flags = 0; lock_owner = 0; flags = 0 }

-- bytes for an open file
abbrev pub write_request : FileRef → ℕ → List ℕ → Request
write_request at off bytes = asks.Write (write_at at.fh off (length bytes)) bytes

-- bit 1 (FUSE_SETUPMAPPING_FLAG_READ), with bit 0 (FUSE_SETUPMAPPING_FLAG_WRITE) for writing too
unfoldable pub setup_flags : Mode → ℕ
setup_flags modes.R = 2
setup_flags modes.W = 3

-- a whole chunk of a file into a whole range; the last number of all stands for no handle
abbrev pub setup_request : ℕ → ℕ → Mode → Request
setup_request chunk range mode = asks.Setup (record {
  fh = 2 ^ 64 - 1;
  foffset = range_size * chunk;
  len = range_size;
  flags = setup_flags mode;
  moffset = range_size * range;
})

-- a whole range
abbrev pub whole_range : ℕ → RemoveOne
whole_range range = record { moffset = range_size * range; len = range_size }

-- a whole range out of the window
abbrev pub remove_request : ℕ → Request
remove_request range = asks.Remove (whole_range range ∷ [])

-- a handle is given back
abbrev pub release_request : FileRef → Request
release_request at = asks.Release (record { fh = at.fh; flags = 0; release_flags = 0; lock_owner = 0 })
