-- What bytes say, read at their offsets: a reply with the number of its request, or the first reason against it.
use Rattle.std.specs.Prelude.{◌≡◌, ℕ, ℤ, pos, neg_ℤ, int_lt, ◌==◌, ◌||◌, not, nat_lt, nat_le, List, length, take, drop, Option, Some, None, option_map, Result, Ok, Err, IsOk, if◌then◌else◌}
use Rattle.plain_file.specs.Limits.{max_transfer}
use Rattle.fuse_wire.specs.Records.{out_header_at, write_out_of}
use Rattle.fuse_wire.specs.Attributes.{entry_out_at, entry_out_of, attr_out_of}
use Rattle.fuse_wire.specs.Opens.{open_out_of}
use Rattle.fuse_wire.specs.Inits.{init_out_of}
use Rattle.fuse_wire.specs.declared.records.OutHeader.{OutHeader}
use Rattle.fuse_codec.specs.declared.opcodes.ReplyForm.{ReplyForm}
use Rattle.fuse_codec.specs.declared.opcodes.ReplyForm.TheVariants as forms
use Rattle.fuse_codec.specs.declared.replies.Reply.{Reply}
use Rattle.fuse_codec.specs.declared.replies.Reply.TheVariants as replies
use Rattle.fuse_codec.specs.declared.errors.BadReply.{BadReply}
use Rattle.fuse_codec.specs.declared.errors.BadReply.TheVariants as bad_replies
use Rattle.fuse_codec.specs.Replies.{answer_form}

-- a CREATE's body
unfoldable pub created_of : List ℕ → Option Reply
created_of bytes =
    if nat_lt (length bytes) 128 then None
    else option_map (replies.Created (entry_out_at (take 128 bytes))) (open_out_of (drop 128 bytes))

-- the body of a success of a form
unfoldable pub success_of : ReplyForm → List ℕ → Option Reply
success_of forms.Entry bytes = option_map replies.Entry (entry_out_of bytes)
success_of forms.Attr bytes = option_map replies.Attr (attr_out_of bytes)
success_of forms.Opened bytes = option_map replies.Opened (open_out_of bytes)
success_of forms.Created bytes = created_of bytes
success_of forms.Bytes bytes = if nat_le (length bytes) max_transfer then Some (replies.Bytes bytes) else None
success_of forms.Wrote bytes = option_map replies.Wrote (write_out_of bytes)
success_of forms.Init bytes = option_map replies.Init (init_out_of bytes)
success_of forms.Done bytes = if length bytes == 0 then Some replies.Done else None
success_of forms.Unanswered bytes = None

-- the body of a reply whose header has this `error`: none after an error
unfoldable pub reply_body_of : ReplyForm → ℤ → List ℕ → Option Reply
reply_body_of form error bytes =
    if int_lt error (pos 0) then (if length bytes == 0 then Some (replies.Error (neg_ℤ error)) else None)
    else success_of form bytes

-- the number of the request and the reply, where the body is in the grammar
abbrev pub reply_with : ℕ → Option Reply → Result (ℕ × Reply) BadReply
reply_with unique None = Err bad_replies.Body
reply_with unique (Some reply) = Ok (unique, reply)

-- a header and what follows it, so many bytes in all
unfoldable pub reply_after : ReplyForm → OutHeader → ℕ → List ℕ → Result (ℕ × Reply) BadReply
reply_after form h had body =
    if not (h.len == had) then Err (bad_replies.Length h.len had)
    else if int_lt (pos 0) h.error || int_lt h.error (neg_ℤ (pos 4095)) then Err (bad_replies.ErrorCode h.error)
    else reply_with h.unique (reply_body_of form h.error body)

-- the reply of a form that bytes are, or the first reason against it
unfoldable pub reply_of : ReplyForm → List ℕ → Result (ℕ × Reply) BadReply
reply_of form bytes =
    if nat_lt (length bytes) 16 then Err bad_replies.Short
    else reply_after form (out_header_at (take 16 bytes)) (length bytes) (drop 16 bytes)

-- What a function returned is what reading gives. Memory runs out only for a reply, so that each other reason is exact.
abbrev pub GivesReply : Result (ℕ × Reply) BadReply → Result (ℕ × Reply) BadReply → Type 0
GivesReply (Ok answer) read = read ≡ Ok answer
GivesReply (Err bad_replies.Memory) read = IsOk read
GivesReply (Err e) read = read ≡ Err e

-- the reading of a reply to the operation of a number
abbrev pub AnswerGives : Result (ℕ × Reply) BadReply → ℕ → List ℕ → Type 0
AnswerGives result opcode bytes = (form : ReplyForm) × (answer_form opcode ≡ Some form) × GivesReply result (reply_of form bytes)
