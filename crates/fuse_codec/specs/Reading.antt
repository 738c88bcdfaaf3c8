-- What bytes say, read at their offsets: a request, or the first reason against it.
use Rattle.std.specs.Prelude.{◌≡◌, ℕ, zero, suc, ◌-◌, ◌*◌, ◌==◌, ◌&&◌, not, nat_lt, nat_le, List, [], ◌∷◌, length, take, drop, Option, Some, None, option_map, Result, Ok, Err, IsOk, if◌then◌else◌}
use Rattle.std.specs.Str.{bytes_eq}
use Rattle.plain_file.specs.Limits.{max_transfer}
use Rattle.plain_file.specs.Names.{checked_name}
use Rattle.fuse_wire.specs.Records.{u32_at, in_header_at, read_in_of, write_in_at}
use Rattle.fuse_wire.specs.Attributes.{getattr_in_of, setattr_in_of}
use Rattle.fuse_wire.specs.Opens.{open_in_of, create_in_at, release_in_of, flush_in_of, fsync_in_of, fallocate_in_of}
use Rattle.fuse_wire.specs.Inits.{init_in_of}
use Rattle.fuse_wire.specs.Forgets.{forget_in_of, forget_one_at}
use Rattle.fuse_wire.specs.Mappings.{setup_in_of, remove_one_at}
use Rattle.fuse_wire.specs.declared.records.InHeader.{InHeader}
use Rattle.fuse_wire.specs.declared.records.WriteIn.{WriteIn}
use Rattle.fuse_wire.specs.declared.forgets.ForgetIn.{ForgetIn}
use Rattle.fuse_codec.specs.declared.opcodes.Opcode.{Opcode}
use Rattle.fuse_codec.specs.declared.opcodes.Opcode.TheVariants as opcodes
use Rattle.fuse_codec.specs.declared.messages.Request.{Request}
use Rattle.fuse_codec.specs.declared.messages.Request.TheVariants as requests
use Rattle.fuse_codec.specs.declared.messages.Message.{Message}
use Rattle.fuse_codec.specs.declared.errors.BadRequest.{BadRequest}
use Rattle.fuse_codec.specs.declared.errors.BadRequest.TheVariants as bad_requests
use Rattle.fuse_codec.specs.Opcodes.{opcode_of}

-- the name before one last byte 0
unfoldable pub name_of : List ℕ → Option (List ℕ)
name_of bytes =
    if length bytes == 0 then None
    else if bytes_eq (drop (length bytes - 1) bytes) (0 ∷ []) then checked_name (take (length bytes - 1) bytes)
    else None

-- a FORGET's body
abbrev pub forget_of : ForgetIn → Request
forget_of r = requests.Forget r.nlookup

-- the front of a WRITE, and as many bytes as it says
unfoldable pub write_with : WriteIn → List ℕ → Option Request
write_with h bytes = if (h.size == length bytes) && nat_le (length bytes) max_transfer then Some (requests.Write h bytes) else None

-- a WRITE's body
unfoldable pub write_of : List ℕ → Option Request
write_of bytes =
    if nat_lt (length bytes) 40 then None
    else write_with (write_in_at (take 40 bytes)) (drop 40 bytes)

-- a CREATE's body
unfoldable pub create_of : List ℕ → Option Request
create_of bytes =
    if nat_lt (length bytes) 16 then None
    else option_map (requests.Create (create_in_at (take 16 bytes))) (name_of (drop 16 bytes))

-- so many records of 16 bytes, one after another
unfoldable pub records_at : {R : Type 0} → (List ℕ → R) → ℕ → List ℕ → List R
records_at at zero bytes = []
records_at at (suc n) bytes = at (take 16 bytes) ∷ records_at at n (drop 16 bytes)

-- as many pairs as a BATCH_FORGET says
unfoldable pub forgets_with : ℕ → List ℕ → Option Request
forgets_with count bytes = if length bytes == 16 * count then Some (requests.BatchForget (records_at forget_one_at count bytes)) else None

-- a BATCH_FORGET's body
unfoldable pub forgets_of : List ℕ → Option Request
forgets_of bytes =
    if nat_lt (length bytes) 8 then None
    else forgets_with (u32_at bytes 0) (drop 8 bytes)

-- as many intervals as a REMOVEMAPPING says
unfoldable pub remove_with : ℕ → List ℕ → Option Request
remove_with count bytes = if nat_le count 256 && (length bytes == 16 * count) then Some (requests.Remove (records_at remove_one_at count bytes)) else None

-- a REMOVEMAPPING's body
unfoldable pub remove_of : List ℕ → Option Request
remove_of bytes =
    if nat_lt (length bytes) 4 then None
    else remove_with (u32_at bytes 0) (drop 4 bytes)

-- the body of an operation
unfoldable pub body_of : Opcode → List ℕ → Option Request
body_of opcodes.Lookup bytes = option_map requests.Lookup (name_of bytes)
body_of opcodes.Forget bytes = option_map forget_of (forget_in_of bytes)
body_of opcodes.Getattr bytes = option_map requests.Getattr (getattr_in_of bytes)
body_of opcodes.Setattr bytes = option_map requests.Setattr (setattr_in_of bytes)
body_of opcodes.Unlink bytes = option_map requests.Unlink (name_of bytes)
body_of opcodes.OpenFile bytes = option_map requests.OpenFile (open_in_of bytes)
body_of opcodes.Read bytes = option_map requests.Read (read_in_of bytes)
body_of opcodes.Write bytes = write_of bytes
body_of opcodes.Release bytes = option_map requests.Release (release_in_of bytes)
body_of opcodes.Fsync bytes = option_map requests.Fsync (fsync_in_of bytes)
body_of opcodes.Flush bytes = option_map requests.Flush (flush_in_of bytes)
body_of opcodes.Init bytes = option_map requests.Init (init_in_of bytes)
body_of opcodes.OpenDir bytes = option_map requests.OpenDir (open_in_of bytes)
body_of opcodes.ReadDir bytes = option_map requests.ReadDir (read_in_of bytes)
body_of opcodes.ReleaseDir bytes = option_map requests.ReleaseDir (release_in_of bytes)
body_of opcodes.Create bytes = create_of bytes
body_of opcodes.Destroy bytes = if length bytes == 0 then Some requests.Destroy else None
body_of opcodes.BatchForget bytes = forgets_of bytes
body_of opcodes.Fallocate bytes = option_map requests.Fallocate (fallocate_in_of bytes)
body_of opcodes.Setup bytes = option_map requests.Setup (setup_in_of bytes)
body_of opcodes.Remove bytes = remove_of bytes

-- a header and a body, where the operation's grammar has it
abbrev pub message_with : InHeader → Option Request → Result Message BadRequest
message_with h None = Err (bad_requests.Body h.opcode)
message_with h (Some q) = Ok (record {
  head = record { unique = h.unique; nodeid = h.nodeid; uid = h.uid; gid = h.gid; pid = h.pid };
  body = q;
})

-- a header and a body, where an operation has the header's number
abbrev pub message_as : InHeader → Option Opcode → List ℕ → Result Message BadRequest
message_as h None body = Err (bad_requests.Opcode h.opcode)
message_as h (Some k) body = message_with h (body_of k body)

-- a header and what follows it, so many bytes in all
unfoldable pub message_after : InHeader → ℕ → List ℕ → Result Message BadRequest
message_after h had body =
    if not (h.len == had) then Err (bad_requests.Length h.len had)
    else if not (h.total_extlen == 0) then Err (bad_requests.Extended h.total_extlen)
    else message_as h (opcode_of h.opcode) body

-- the request that bytes are, or the first reason against it
unfoldable pub message_of : List ℕ → Result Message BadRequest
message_of bytes =
    if nat_lt (length bytes) 40 then Err bad_requests.Short
    else message_after (in_header_at (take 40 bytes)) (length bytes) (drop 40 bytes)

-- What a function returned is what reading gives. Memory runs out only for a request, so that each other reason is exact.
abbrev pub Gives : Result Message BadRequest → Result Message BadRequest → Type 0
Gives (Ok m) read = read ≡ Ok m
Gives (Err bad_requests.Memory) read = IsOk read
Gives (Err e) read = read ≡ Err e
