-- What a request does to the window, as acts.
use Rattle.std.specs.Prelude.{ℕ, ◌*◌, ◌==◌, nat_lt, List, [], ◌∷◌, length, map, Result, Ok, Err, if◌then◌else◌}
use Rattle.fuse_codec.specs.Reading.{message_of}
use Rattle.fuse_codec.specs.declared.errors.BadRequest.{BadRequest}
use Rattle.fuse_codec.specs.declared.messages.Message.{Message}
use Rattle.fuse_codec.specs.declared.messages.Request.{Request}
use Rattle.fuse_codec.specs.declared.messages.Request.TheVariants as asks
use Rattle.fuse_codec.specs.declared.replies.Reply.{Reply}
use Rattle.fuse_wire.specs.declared.errno.Errno.{Errno}
use Rattle.fuse_wire.specs.declared.mappings.RemoveOne.{RemoveOne}
use Rattle.page_map.specs.Window.{Act, set, clear, page_size}
use Rattle.fuse_device.specs.State.{State, World}
use Rattle.fuse_device.specs.Requests.{span_of}
use Rattle.fuse_device.specs.Steps.{is_forget_number, header_at, judged}

-- an interval is cleared
abbrev pub clear_of : RemoveOne → Act
clear_of one = clear one.moffset one.len

-- What a request about a node does where it succeeds: a SETUPMAPPING maps its span, a REMOVEMAPPING clears its
-- intervals, a DESTROY clears the whole window, where it has pages, and no other one does anything.
unfoldable pub request_acts : State → ℕ → Request → List Act
request_acts s node (asks.Setup r) = set (span_of node r) ∷ []
request_acts s node (asks.Remove ones) = map clear_of ones
request_acts s node asks.Destroy = if s.pages == 0 then [] else clear 0 (page_size * s.pages) ∷ []
request_acts s node request = []

-- a request that is refused does nothing
abbrev pub acts_if : Result Reply Errno → List Act → List Act
acts_if (Ok reply) acts = acts
acts_if (Err e) acts = []

-- what is no request does nothing
abbrev pub acts_in : World → ℕ → Result Message BadRequest → List Act
acts_in w room (Err bad) = []
acts_in w room (Ok m) = acts_if (judged w room (Ok m)).0 (request_acts w.state m.head.nodeid m.body)

-- What a chain does. Nothing is done without a whole header and room for a reply's header, and by a forget.
unfoldable pub acts_of : World → List ℕ → ℕ → List Act
acts_of w readable room =
    if nat_lt (length readable) 40 then []
    else if is_forget_number (header_at readable).opcode then []
    else if nat_lt room 16 then []
    else acts_in w room (message_of readable)
