-- The grammar of requests: what each operation's request is on the wire, as parts in their order.
use Rattle.std.specs.Prelude.{◌≡◌, ℕ, ◌+◌, ◌*◌, ◌≤◌, ◌==◌, ◌&&◌, Bool, true, nat_le, List, [], ◌∷◌, ◌++◌, length, Option, Some, None}
use Rattle.std.specs.List.{flat_map}
use Rattle.plain_file.specs.Names.{is_name}
use Rattle.fuse_wire.specs.Layout.{Part, U32, Unused, Bytes, AreSpelled, clean}
use Rattle.fuse_wire.specs.Records.{in_header, read_in, write_in}
use Rattle.fuse_wire.specs.Attributes.{getattr_in, setattr_in}
use Rattle.fuse_wire.specs.Opens.{open_in, create_in, release_in, flush_in, fsync_in, fallocate_in}
use Rattle.fuse_wire.specs.Inits.{init_in}
use Rattle.fuse_wire.specs.Forgets.{forget_in, forget_one}
use Rattle.fuse_wire.specs.Mappings.{setup_in, remove_one}
use Rattle.fuse_wire.specs.declared.records.InHeader.{InHeader}
use Rattle.fuse_wire.specs.declared.records.WriteIn.{WriteIn}
use Rattle.fuse_codec.specs.declared.opcodes.Opcode.{Opcode}
use Rattle.fuse_codec.specs.declared.opcodes.Opcode.TheVariants as opcodes
use Rattle.fuse_codec.specs.declared.opcodes.ReplyForm.{ReplyForm}
use Rattle.fuse_codec.specs.declared.opcodes.ReplyForm.TheVariants as forms
use Rattle.fuse_codec.specs.declared.messages.Request.{Request}
use Rattle.fuse_codec.specs.declared.messages.Request.TheVariants as requests
use Rattle.fuse_codec.specs.declared.messages.Head.{Head}
use Rattle.fuse_codec.specs.declared.messages.Message.{Message}
use Rattle.plain_file.specs.Limits.{max_part, max_transfer}
use Rattle.fuse_codec.specs.Opcodes.{number, reply_form}

-- the operation of a request
unfoldable pub kind_of : Request → Opcode
kind_of (requests.Lookup name) = opcodes.Lookup
kind_of (requests.Forget nlookup) = opcodes.Forget
kind_of (requests.Getattr r) = opcodes.Getattr
kind_of (requests.Setattr r) = opcodes.Setattr
kind_of (requests.Unlink name) = opcodes.Unlink
kind_of (requests.OpenFile r) = opcodes.OpenFile
kind_of (requests.Read r) = opcodes.Read
kind_of (requests.Write h bytes) = opcodes.Write
kind_of (requests.Release r) = opcodes.Release
kind_of (requests.Fsync r) = opcodes.Fsync
kind_of (requests.Flush r) = opcodes.Flush
kind_of (requests.Init r) = opcodes.Init
kind_of (requests.OpenDir r) = opcodes.OpenDir
kind_of (requests.ReadDir r) = opcodes.ReadDir
kind_of (requests.ReleaseDir r) = opcodes.ReleaseDir
kind_of (requests.Create h name) = opcodes.Create
kind_of requests.Destroy = opcodes.Destroy
kind_of (requests.BatchForget ones) = opcodes.BatchForget
kind_of (requests.Fallocate r) = opcodes.Fallocate
kind_of (requests.Setup r) = opcodes.Setup
kind_of (requests.Remove ones) = opcodes.Remove

-- a name, then one byte 0
abbrev pub named : List ℕ → List Part
named name = Bytes name ∷ Bytes (0 ∷ []) ∷ []

-- what stands in a body, one case for each operation
unfoldable pub body_parts : Request → List Part
body_parts (requests.Lookup name) = named name
body_parts (requests.Forget nlookup) = forget_in (record { nlookup = nlookup })
body_parts (requests.Getattr r) = getattr_in r
body_parts (requests.Setattr r) = setattr_in r
body_parts (requests.Unlink name) = named name
body_parts (requests.OpenFile r) = open_in r
body_parts (requests.Read r) = read_in r
body_parts (requests.Write h bytes) = write_in h ++ Bytes bytes ∷ []
body_parts (requests.Release r) = release_in r
body_parts (requests.Fsync r) = fsync_in r
body_parts (requests.Flush r) = flush_in r
body_parts (requests.Init r) = init_in r
body_parts (requests.OpenDir r) = open_in r
body_parts (requests.ReadDir r) = read_in r
body_parts (requests.ReleaseDir r) = release_in r
body_parts (requests.Create h name) = create_in h ++ named name
body_parts requests.Destroy = []
body_parts (requests.BatchForget ones) = U32 (length ones) ∷ Unused 4 ∷ flat_map forget_one ones
body_parts (requests.Fallocate r) = fallocate_in r
body_parts (requests.Setup r) = setup_in r
body_parts (requests.Remove ones) = U32 (length ones) ∷ flat_map remove_one ones

-- What a body must be besides. The pairs of a BATCH_FORGET are bounded by what a part may have: 40 + 8 + 16 * 65,789 = 1,052,672.
unfoldable pub is_bounded : Request → Bool
is_bounded (requests.Lookup name) = is_name name
is_bounded (requests.Forget nlookup) = true
is_bounded (requests.Getattr r) = true
is_bounded (requests.Setattr r) = true
is_bounded (requests.Unlink name) = is_name name
is_bounded (requests.OpenFile r) = true
is_bounded (requests.Read r) = true
is_bounded (requests.Write h bytes) = (h.size == length bytes) && nat_le (length bytes) max_transfer
is_bounded (requests.Release r) = true
is_bounded (requests.Fsync r) = true
is_bounded (requests.Flush r) = true
is_bounded (requests.Init r) = true
is_bounded (requests.OpenDir r) = true
is_bounded (requests.ReadDir r) = true
is_bounded (requests.ReleaseDir r) = true
is_bounded (requests.Create h name) = is_name name
is_bounded requests.Destroy = true
is_bounded (requests.BatchForget ones) = nat_le (40 + 8 + 16 * length ones) max_part
is_bounded (requests.Fallocate r) = true
is_bounded (requests.Setup r) = true
is_bounded (requests.Remove ones) = nat_le (length ones) 256

-- bytes that spell a body
pub record SpellsBody (q : Request) (bytes : List ℕ) : Type 0 where
  pub bounded : is_bounded q ≡ true
  pub parts : AreSpelled (body_parts q) bytes

-- the header of a request of so many bytes, of this operation
abbrev pub header_with : ℕ → Head → Opcode → InHeader
header_with len head opcode = record {
  len = len;
  opcode = number opcode;
  unique = head.unique;
  nodeid = head.nodeid;
  uid = head.uid;
  gid = head.gid;
  pid = head.pid;
  total_extlen = 0;
}

-- the header of a message of so many bytes
abbrev pub header_of : ℕ → Message → InHeader
header_of len m = header_with len m.head (kind_of m.body)

-- a WRITE of these bytes
abbrev pub write_message : Head → WriteIn → List ℕ → Message
write_message head write bytes = record { head = head; body = requests.Write write bytes }

-- bytes that spell a message: the header, whose `len` is the length of all, then the body
pub record Spells (m : Message) (bytes : List ℕ) : Type 0 where
  pub header : List ℕ
  pub body : List ℕ
  pub whole : bytes ≡ header ++ body
  pub within : length bytes ≤ max_part
  pub header_spelled : AreSpelled (in_header (header_of (length bytes) m)) header
  pub body_spelled : SpellsBody m.body body

-- the spelling with zeros where any bytes may stand
abbrev pub clean_message : Message → List ℕ
clean_message m =
    let body = clean (body_parts m.body) in
    clean (in_header (header_of (40 + length body) m)) ++ body

-- ---- the room that a reply wants

-- the most bytes that READ and READDIR ask for
unfoldable pub asked : Request → ℕ
asked (requests.Read r) = r.size
asked (requests.ReadDir r) = r.size
asked q = 0

-- the room of a reply with its header: nothing where there is no reply
unfoldable pub form_room : ReplyForm → ℕ → Option ℕ
form_room forms.Entry size = Some (16 + 128)
form_room forms.Attr size = Some (16 + 104)
form_room forms.Opened size = Some (16 + 16)
form_room forms.Created size = Some (16 + 144)
form_room forms.Bytes size = Some (16 + size)
form_room forms.Wrote size = Some (16 + 8)
form_room forms.Init size = Some (16 + 64)
form_room forms.Done size = Some 16
form_room forms.Unanswered size = None

-- the room that a request's reply wants
abbrev pub room_of : Request → Option ℕ
room_of q = form_room (reply_form (kind_of q)) (asked q)
