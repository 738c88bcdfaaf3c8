-- One step of the device on the bytes of a chain.
use Rattle.std.specs.Prelude.{ℕ, ◌==◌, pos, Bool, ◌||◌, not, nat_lt, List, [], length, take, Result, Ok, Err, unwrap_or, if◌then◌else◌}
use Rattle.fuse_codec.specs.Grammar.{room_of}
use Rattle.fuse_codec.specs.Opcodes.{number}
use Rattle.fuse_codec.specs.Reading.{message_of}
use Rattle.fuse_codec.specs.Replies.{clean_reply}
use Rattle.fuse_codec.specs.declared.errors.BadRequest.{BadRequest}
use Rattle.fuse_codec.specs.declared.errors.BadRequest.TheVariants as bad_requests
use Rattle.fuse_codec.specs.declared.messages.Message.{Message}
use Rattle.fuse_codec.specs.declared.messages.Request.{Request}
use Rattle.fuse_codec.specs.declared.opcodes.Opcode.TheVariants as opcodes
use Rattle.fuse_codec.specs.declared.replies.Reply.{Reply}
use Rattle.fuse_codec.specs.declared.replies.Reply.TheVariants as gives
use Rattle.fuse_wire.specs.Errno.{errno_number}
use Rattle.fuse_wire.specs.Records.{in_header_at}
use Rattle.fuse_wire.specs.declared.errno.Errno.{Errno}
use Rattle.fuse_wire.specs.declared.errno.Errno.TheVariants.{EIO, EINVAL, ENOSYS}
use Rattle.fuse_wire.specs.declared.records.InHeader.{InHeader}
use Rattle.fuse_device.specs.State.{World}
use Rattle.fuse_device.specs.Checks.{Outcome, refuse}
use Rattle.fuse_device.specs.Requests.{served, is_init}

-- the device afterwards, and what goes into the writable part
abbrev pub Step : Type 0
Step = World × List ℕ

-- the error that answers bytes which are no request
unfoldable pub errno_of : BadRequest → Errno
errno_of bad_requests.Short = EINVAL
errno_of (bad_requests.Length said had) = EINVAL
errno_of (bad_requests.Extended n) = EINVAL
errno_of (bad_requests.Opcode n) = ENOSYS
errno_of (bad_requests.Body opcode) = EINVAL
errno_of bad_requests.Memory = EINVAL

-- the reply that goes over the wire
unfoldable pub reply_to : Result Reply Errno → Reply
reply_to (Ok reply) = reply
reply_to (Err e) = gives.Error (pos (errno_number e))

-- the reply's bytes, with the request's own number
abbrev pub replied : ℕ → Outcome → Step
replied unique o = (o.1, clean_reply unique (reply_to o.0))

-- the room that a request's reply wants; for a request without a reply, that of a reply without a body
abbrev pub wanted_room : Request → ℕ
wanted_room q = unwrap_or (room_of q) 16

-- Steps 8 to 10: the session, the room for the reply, then what the request means.
unfoldable pub judged_message : World → ℕ → Message → Outcome
judged_message w room m =
    refuse (not (w.state.started || is_init m.body)) EIO w (
    refuse (nat_lt room (wanted_room m.body)) EINVAL w
    (served w m))

-- steps 4 to 10: what is no request is refused before all else
abbrev pub judged : World → ℕ → Result Message BadRequest → Outcome
judged w room (Err bad) = (Err (errno_of bad), w)
judged w room (Ok m) = judged_message w room m

-- step 2: what is no request does nothing
abbrev pub forgot : World → Result Message BadRequest → World
forgot w (Err bad) = w
forgot w (Ok m) = (served w m).1

-- the numbers of FORGET and BATCH_FORGET
abbrev pub is_forget_number : ℕ → Bool
is_forget_number n = n == number opcodes.Forget || n == number opcodes.BatchForget

-- the header at the front of a chain's readable bytes
abbrev pub header_at : List ℕ → InHeader
header_at readable = in_header_at (take 40 readable)

-- One step. No bytes are answered where there is no whole header (step 1), to a forget (step 2), and where
-- there is no room for a reply's header (step 3).
unfoldable pub device_step : World → List ℕ → ℕ → Step
device_step w readable room =
    if nat_lt (length readable) 40 then (w, [])
    else if is_forget_number (header_at readable).opcode then (forgot w (message_of readable), [])
    else if nat_lt room 16 then (w, [])
    else replied (header_at readable).unique (judged w room (message_of readable))
