-- What a device answers, read as a reply.
use Rattle.std.specs.Prelude.{ℕ, ◌≤◌, List, [], ◌∷◌, length, unwrap_or, Result, IsOk}
use Rattle.fuse_codec.specs.ReplyReading.{reply_of}
use Rattle.fuse_codec.specs.Replies.{answer_form}
use Rattle.fuse_codec.specs.declared.opcodes.ReplyForm.{ReplyForm}
use Rattle.fuse_codec.specs.declared.opcodes.ReplyForm.TheVariants as forms
use Rattle.fuse_codec.specs.declared.replies.Reply.{Reply}
use Rattle.fuse_codec.specs.declared.errors.BadReply.{BadReply}
use Rattle.fuse_device.specs.Steps.{header_at}

-- The form as which an answer to the operation of a number is read. What no operation has, and what has
-- no reply, is answered by a header alone at most.
unfoldable pub read_form : ℕ → ReplyForm
read_form opcode = unwrap_or (answer_form opcode) forms.Done

-- an answer to the readable bytes of a request, read as a reply
unfoldable pub reply_in : List ℕ → List ℕ → Result (ℕ × Reply) BadReply
reply_in readable answer = reply_of (read_form (header_at readable).opcode) answer

-- an answer is no bytes, or a reply to the request whose header is at the front of the readable bytes
abbrev pub IsAnswer : List ℕ → List ℕ → Type 0
IsAnswer readable [] = Unit {0}
IsAnswer readable (byte ∷ bytes) = (40 ≤ length readable) × IsOk (reply_in readable (byte ∷ bytes))
