-- What each request means: its checks in their order, then its effect and its reply.
use Rattle.std.specs.Prelude.{ℕ, ◌+◌, ◌-◌, ◌%◌, ◌^◌, ◌==◌, Bool, true, false, ◌||◌, ◌&&◌, not, nat_lt, List, [], ◌∷◌, length, codes, Option, Some, None, Ok, Err, if◌then◌else◌}
use Rattle.std.specs.List.{list_all}
use Rattle.std.specs.Str.{bytes_eq}
use Rattle.plain_file.specs.Limits.{max_transfer}
use Rattle.fuse_codec.specs.declared.messages.Message.{Message}
use Rattle.fuse_codec.specs.declared.messages.Request.{Request}
use Rattle.fuse_codec.specs.declared.messages.Request.TheVariants as asks
use Rattle.fuse_codec.specs.declared.replies.Reply.{Reply}
use Rattle.fuse_codec.specs.declared.replies.Reply.TheVariants as gives
use Rattle.fuse_wire.specs.declared.errno.Errno.TheVariants.{ENOENT, EIO, EBUSY, EEXIST, EISDIR, EINVAL, EFBIG, ENOSPC, EPROTO, EOPNOTSUPP}
use Rattle.fuse_wire.specs.declared.attributes.GetattrIn.{GetattrIn}
use Rattle.fuse_wire.specs.declared.attributes.SetattrIn.{SetattrIn}
use Rattle.fuse_wire.specs.declared.forgets.ForgetOne.{ForgetOne}
use Rattle.fuse_wire.specs.declared.inits.InitIn.{InitIn}
use Rattle.fuse_wire.specs.declared.mappings.RemoveOne.{RemoveOne}
use Rattle.fuse_wire.specs.declared.mappings.SetupIn.{SetupIn}
use Rattle.fuse_wire.specs.declared.opens.CreateIn.{CreateIn}
use Rattle.fuse_wire.specs.declared.records.ReadIn.{ReadIn}
use Rattle.fuse_wire.specs.declared.records.WriteIn.{WriteIn}
use Rattle.page_map.specs.Window.{page_size}
use Rattle.page_map.specs.Board.{painted, is_whole}
use Rattle.page_map.specs.declared.pages.Mode.TheVariants as modes
use Rattle.page_map.specs.declared.pages.Span.{Span}
use Rattle.plain_file.specs.Board.{file_at, size_of, noted, file_answer, applied}
use Rattle.plain_file.specs.File.{max_file}
use Rattle.plain_file.specs.declared.operations.Answer.{Answer}
use Rattle.plain_file.specs.declared.operations.Answer.TheVariants as answers
use Rattle.plain_file.specs.declared.operations.Op.{Op}
use Rattle.plain_file.specs.declared.operations.Op.TheVariants as ops
use Rattle.fuse_device.specs.State.{State, World, grants, made_at, named, with_made, looked_up, unnamed, with_new_file, less_looked_up, with_open, without_open, begun, ended, cleared_window, all_cleared}
use Rattle.fuse_device.specs.Checks.{Outcome, is_known, is_past, has_flag, refuse, on_known, on_dir, on_file, on_handle, on_handle_if, if_may_open}
use Rattle.fuse_device.specs.Entries.{session_flags, init_out_with, dir_attr, file_attr, attr_out_of, entry_of, open_out_of, listed}

-- ---- what is done and answered

-- a reply without a body, and this device afterwards
abbrev pub done : World → Outcome
done w = (Ok gives.Done, w)

-- the same boards
abbrev pub with_state : World → State → World
with_state w s = record w { state = s }

-- an operation on the node's file, where the board allows it
abbrev pub applies : World → ℕ → Op → (Answer → Reply) → Outcome
applies w node op reply =
    if (grants w).may_apply (node - 2) op then (Ok (reply (file_answer (file_at w.files (node - 2)) op).answer), record w { files = applied w.files (node - 2) op })
    else (Err EBUSY, w)

-- the reply to a read
unfoldable pub bytes_reply : Answer → Reply
bytes_reply (answers.Bytes bytes) = gives.Bytes bytes
bytes_reply (answers.Wrote n) = gives.Bytes []
bytes_reply (answers.Size n) = gives.Bytes []

-- the size that is answered
unfoldable pub size_in : Answer → ℕ
size_in (answers.Bytes bytes) = 0
size_in (answers.Wrote n) = 0
size_in (answers.Size n) = n

-- a file's attributes, where its size was answered
abbrev pub attr_reply : State → ℕ → Answer → Reply
attr_reply s node answer = gives.Attr (attr_out_of (file_attr s node (size_in answer)))

-- a node's attributes: a file is asked for its size
abbrev pub attr_of : World → ℕ → Outcome
attr_of w node = if node == 1 then (Ok (gives.Attr (attr_out_of dir_attr)), w) else applies w node ops.Size (attr_reply w.state node)

-- a new handle of a node
abbrev pub opens : World → ℕ → Outcome
opens w node = (Ok (gives.Opened (open_out_of w.state)), with_state w (with_open w.state node))

-- a handle is closed
abbrev pub closes : World → ℕ → Outcome
closes w fh = done (with_state w (without_open w.state fh))

-- ---- sessions

-- INIT: version 7.31 or later
unfoldable pub init : World → InitIn → Outcome
init w r =
    refuse (not (r.major == 7) || nat_lt r.minor 31) EPROTO w
    (Ok (gives.Init (init_out_with (session_flags w.state.pages r) r)), with_state w (begun w.state))

-- DESTROY
unfoldable pub destroy : World → Outcome
destroy w = done (record w { state = ended w.state; map = cleared_window w.state.pages w.map })

-- ---- attributes

-- GETATTR: flag 1 (FUSE_GETATTR_FH) says that it names a handle
unfoldable pub getattr : World → ℕ → GetattrIn → Outcome
getattr w node r = on_known w node (on_handle_if (has_flag r.getattr_flags 1) w r.fh node (attr_of w node))

-- a file gets a size
abbrev pub resizes : World → ℕ → ℕ → Outcome
resizes w node size =
    refuse (node == 1) EISDIR w (
    refuse (nat_lt max_file size) EFBIG w
    (applies w node (ops.Truncate size) (attr_reply w.state node)))

-- SETATTR: bit 6 (FATTR_FH) says that it names a handle, bit 3 (FATTR_SIZE) that it sets the size
unfoldable pub setattr : World → ℕ → SetattrIn → Outcome
setattr w node r =
    on_known w node (on_handle_if (has_flag r.valid 64) w r.fh node (
    if has_flag r.valid 8 then resizes w node r.size
    else attr_of w node))

-- ---- handles

-- OPEN
unfoldable pub open_file : World → ℕ → Outcome
open_file w node = on_file w node (if_may_open w (opens w node))

-- OPENDIR
unfoldable pub open_dir : World → ℕ → Outcome
open_dir w node = on_dir w node (if_may_open w (opens w node))

-- RELEASE
unfoldable pub release : World → ℕ → ℕ → Outcome
release w node fh = on_file w node (on_handle w fh node (closes w fh))

-- RELEASEDIR
unfoldable pub release_dir : World → ℕ → ℕ → Outcome
release_dir w node fh = on_dir w node (on_handle w fh node (closes w fh))

-- FSYNC and FLUSH
unfoldable pub sync : World → ℕ → ℕ → Outcome
sync w node fh = on_file w node (on_handle w fh node (done w))

-- FALLOCATE is always refused
unfoldable pub fallocate : World → ℕ → ℕ → Outcome
fallocate w node fh = on_file w node (on_handle w fh node (Err EOPNOTSUPP, w))

-- ---- a file's bytes

-- READ
unfoldable pub read : World → ℕ → ReadIn → Outcome
read w node r =
    on_file w node (on_handle w r.fh node (
    refuse (nat_lt max_transfer r.size) EINVAL w
    (applies w node (ops.Read r.offset r.size) bytes_reply)))

-- WRITE
unfoldable pub write : World → ℕ → WriteIn → List ℕ → Outcome
write w node r bytes =
    on_file w node (on_handle w r.fh node (
    refuse (is_past r.offset r.size) EFBIG w
    (applies w node (ops.Write r.offset bytes) (λ _. gives.Wrote (record { size = r.size })))))

-- ---- names

-- the device after it saw the size of a file, which a board over a table notes
abbrev pub seen_size : World → ℕ → World
seen_size w i = record w { files = noted w.files i (size_of (file_at w.files i)) }

-- the file that was looked up, if there is one
abbrev pub found : Option ℕ → World → Outcome
found None w = (Err ENOENT, w)
found (Some i) w = (Ok (gives.Entry (entry_of w.state w.files i)), with_state (seen_size w i) (looked_up w.state i))

-- LOOKUP
unfoldable pub lookup : World → ℕ → List ℕ → Outcome
lookup w node name = on_dir w node (found (named w.state name) w)

-- the file whose name is taken away, if there is one
abbrev pub unlinked : Option ℕ → World → Outcome
unlinked None w = (Err ENOENT, w)
unlinked (Some i) w = done (with_state w (unnamed w.state i))

-- UNLINK
unfoldable pub unlink : World → ℕ → List ℕ → Outcome
unlink w node name = on_dir w node (unlinked (named w.state name) w)

-- a file's entry and a new handle of it
abbrev pub opens_entry : World → ℕ → Outcome
opens_entry w i = (Ok (gives.Created (entry_of w.state w.files i) (open_out_of w.state)), with_state (seen_size w i) (with_open (looked_up w.state i) (i + 2)))

-- the lowest file that wasn't made is made
abbrev pub makes_entry : World → List ℕ → Outcome
makes_entry w name = opens_entry (with_state w (with_new_file w.state name)) (length w.state.made)

-- the file that is there, or a new one
abbrev pub created : Option ℕ → Bool → World → List ℕ → Outcome
created (Some i) exclusive w name = refuse exclusive EEXIST w (if_may_open w (opens_entry w i))
created None exclusive w name = refuse (not (nat_lt (length w.state.made) 16)) ENOSPC w (if_may_open w (makes_entry w name))

-- a name that the directory doesn't keep
abbrev pub is_dots : List ℕ → Bool
is_dots name = bytes_eq name (codes ".") || bytes_eq name (codes "..")

-- CREATE: bit 7 of the flags is O_EXCL
unfoldable pub create : World → ℕ → CreateIn → List ℕ → Outcome
create w node r name = on_dir w node (refuse (is_dots name) EINVAL w (created (named w.state name) (has_flag r.flags 128) w name))

-- lookups of a node are given back; the directory's and unknown ones are passed over
abbrev pub forgotten : State → ℕ → ℕ → State
forgotten s node n = if is_known s node && not (node == 1) then with_made s (node - 2) (less_looked_up n (made_at s node)) else s

-- lookups of nodes are given back one after another
abbrev pub all_forgotten : State → List ForgetOne → State
all_forgotten s [] = s
all_forgotten s (one ∷ ones) = all_forgotten (forgotten s one.nodeid one.nlookup) ones

-- FORGET
unfoldable pub forget : World → ℕ → ℕ → Outcome
forget w node n = done (with_state w (forgotten w.state node n))

-- BATCH_FORGET
unfoldable pub batch_forget : World → List ForgetOne → Outcome
batch_forget w ones = done (with_state w (all_forgotten w.state ones))

-- ---- the directory

-- READDIR
unfoldable pub read_dir : World → ℕ → ReadIn → Outcome
read_dir w node r =
    on_dir w node (on_handle w r.fh node (
    refuse (nat_lt max_transfer r.size) EINVAL w
    (Ok (gives.Bytes (listed w.state r.offset r.size)), w)))

-- ---- the window

-- what is mapped: bit 0 of the flags (FUSE_SETUPMAPPING_FLAG_WRITE) asks for writing
abbrev pub span_of : ℕ → SetupIn → Span
span_of node r = record { node = node; foffset = r.foffset; moffset = r.moffset; len = r.len; mode = if has_flag r.flags 1 then modes.W else modes.R }

-- neither reading nor writing is asked for, or more than both, or a part isn't whole pages of file and window
abbrev pub is_bad_setup : ℕ → SetupIn → Bool
is_bad_setup pages r = r.flags == 0 || nat_lt 3 r.flags || not (r.foffset % page_size == 0) || not (is_whole pages r.moffset r.len)

-- SETUPMAPPING: the last number of all stands for no handle
unfoldable pub setup : World → ℕ → SetupIn → Outcome
setup w node r =
    on_file w node (on_handle_if (not (r.fh == 2 ^ 64 - 1)) w r.fh node (
    refuse (is_past r.foffset r.len) EFBIG w (
    refuse (is_bad_setup w.state.pages r) EINVAL w (
    refuse (not ((grants w).may_set (span_of node r))) EBUSY w
    (done (record w { map = painted w.map (span_of node r) }))))))

-- REMOVEMAPPING: all intervals are judged before one is cleared
unfoldable pub remove : World → List RemoveOne → Outcome
remove w ones =
    refuse (not (list_all (λ one. is_whole w.state.pages one.moffset one.len) ones)) EINVAL w (
    refuse (not (list_all (λ one. (grants w).may_clear one.moffset one.len) ones)) EBUSY w
    (done (record w { map = all_cleared w.map ones })))

-- ---- any request

-- what a request means once the session is started
unfoldable pub answered : World → ℕ → Request → Outcome
answered w node (asks.Lookup name) = lookup w node name
answered w node (asks.Forget n) = forget w node n
answered w node (asks.Getattr r) = getattr w node r
answered w node (asks.Setattr r) = setattr w node r
answered w node (asks.Unlink name) = unlink w node name
answered w node (asks.OpenFile r) = open_file w node
answered w node (asks.Read r) = read w node r
answered w node (asks.Write r bytes) = write w node r bytes
answered w node (asks.Release r) = release w node r.fh
answered w node (asks.Fsync r) = sync w node r.fh
answered w node (asks.Flush r) = sync w node r.fh
answered w node (asks.Init r) = init w r
answered w node (asks.OpenDir r) = open_dir w node
answered w node (asks.ReadDir r) = read_dir w node r
answered w node (asks.ReleaseDir r) = release_dir w node r.fh
answered w node (asks.Create r name) = create w node r name
answered w node asks.Destroy = destroy w
answered w node (asks.BatchForget ones) = batch_forget w ones
answered w node (asks.Fallocate r) = fallocate w node r.fh
answered w node (asks.Setup r) = setup w node r
answered w node (asks.Remove ones) = remove w ones

-- INIT
unfoldable pub is_init : Request → Bool
is_init (asks.Init r) = true
is_init request = false

-- FORGET or BATCH_FORGET, which have no reply
unfoldable pub is_forget : Request → Bool
is_forget (asks.Forget n) = true
is_forget (asks.BatchForget ones) = true
is_forget request = false

-- One request. Before the session is started INIT alone is served, and forgets do nothing.
unfoldable pub served : World → Message → Outcome
served w m =
    if w.state.started || is_init m.body then answered w m.head.nodeid m.body
    else if is_forget m.body then done w
    else (Err EIO, w)
