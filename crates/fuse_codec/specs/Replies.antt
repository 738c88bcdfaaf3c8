-- The grammar of replies: what each reply is on the wire, as parts in their order.
use Rattle.std.specs.Prelude.{◌≡◌, ℕ, ◌+◌, ◌&&◌, ℤ, pos, neg_ℤ, int_lt, int_le, Bool, true, nat_le, List, [], ◌∷◌, ◌++◌, length, Option, Some, None, IfSome}
use Rattle.plain_file.specs.Limits.{max_transfer}
use Rattle.fuse_wire.specs.Layout.{Part, Bytes, AreSpelled, clean, parts_len}
use Rattle.fuse_wire.specs.Records.{out_header, write_out}
use Rattle.fuse_wire.specs.Attributes.{entry_out, attr_out}
use Rattle.fuse_wire.specs.Opens.{open_out}
use Rattle.fuse_wire.specs.Inits.{init_out}
use Rattle.fuse_wire.specs.declared.records.OutHeader.{OutHeader}
use Rattle.fuse_codec.specs.declared.opcodes.Opcode.{Opcode}
use Rattle.fuse_codec.specs.declared.opcodes.ReplyForm.{ReplyForm}
use Rattle.fuse_codec.specs.declared.opcodes.ReplyForm.TheVariants as forms
use Rattle.fuse_codec.specs.declared.replies.Reply.{Reply}
use Rattle.fuse_codec.specs.declared.replies.Reply.TheVariants as replies
use Rattle.fuse_codec.specs.Opcodes.{opcode_of, reply_form}

-- the form of a success; an error has none
unfoldable pub form_of : Reply → Option ReplyForm
form_of (replies.Error number) = None
form_of (replies.Entry r) = Some forms.Entry
form_of (replies.Attr r) = Some forms.Attr
form_of (replies.Opened r) = Some forms.Opened
form_of (replies.Created entry opened) = Some forms.Created
form_of (replies.Bytes bytes) = Some forms.Bytes
form_of (replies.Wrote r) = Some forms.Wrote
form_of (replies.Init r) = Some forms.Init
form_of replies.Done = Some forms.Done

-- what stands in a reply's body
unfoldable pub reply_parts : Reply → List Part
reply_parts (replies.Error number) = []
reply_parts (replies.Entry r) = entry_out r
reply_parts (replies.Attr r) = attr_out r
reply_parts (replies.Opened r) = open_out r
reply_parts (replies.Created entry opened) = entry_out entry ++ open_out opened
reply_parts (replies.Bytes bytes) = Bytes bytes ∷ []
reply_parts (replies.Wrote r) = write_out r
reply_parts (replies.Init r) = init_out r
reply_parts replies.Done = []

-- the number in the header's field `error`: 0 after a success, the negative number of an error
unfoldable pub error_of : Reply → ℤ
error_of (replies.Error number) = neg_ℤ number
error_of reply = pos 0

-- from 1 to 4095
abbrev pub is_error_number : ℤ → Bool
is_error_number n = int_lt (pos 0) n && int_le n (pos 4095)

-- what a reply must be besides
unfoldable pub is_reply : Reply → Bool
is_reply (replies.Error number) = is_error_number number
is_reply (replies.Bytes bytes) = nat_le (length bytes) max_transfer
is_reply reply = true

-- a success is of this form; an error goes with every form
abbrev pub HasForm : ReplyForm → Reply → Type 0
HasForm form reply = IfSome (form_of reply) (λ f. f ≡ form)

-- the header of a reply of so many bytes
abbrev pub reply_header : ℕ → ℕ → Reply → OutHeader
reply_header len unique reply = record { len = len; error = error_of reply; unique = unique }

-- Bytes that spell a reply, where a success has this form: the header, whose `len` is the length of all, then the body.
pub record SpellsReply (form : ReplyForm) (unique : ℕ) (reply : Reply) (bytes : List ℕ) : Type 0 where
  pub header : List ℕ
  pub body : List ℕ
  pub whole : bytes ≡ header ++ body
  pub bounded : is_reply reply ≡ true
  pub formed : HasForm form reply
  pub header_spelled : AreSpelled (out_header (reply_header (length bytes) unique reply)) header
  pub body_spelled : AreSpelled (reply_parts reply) body

-- how many bytes a reply takes
abbrev pub reply_len : Reply → ℕ
reply_len reply = 16 + parts_len (reply_parts reply)

-- the spelling with zeros where any bytes may stand
abbrev pub clean_reply : ℕ → Reply → List ℕ
clean_reply unique reply = clean (out_header (reply_header (reply_len reply) unique reply)) ++ clean (reply_parts reply)

-- ---- what answers an operation

-- a form that a reply has
unfoldable pub answered : ReplyForm → Option ReplyForm
answered forms.Unanswered = None
answered form = Some form

-- an operation's form, where it has a reply
abbrev pub answer_to : Option Opcode → Option ReplyForm
answer_to None = None
answer_to (Some k) = answered (reply_form k)

-- the form of what answers the operation of a number: none for a number of no operation, and where there is no reply
unfoldable pub answer_form : ℕ → Option ReplyForm
answer_form n = answer_to (opcode_of n)

-- bytes that spell a reply to the operation of a number
abbrev pub SpellsAnswer : ℕ → ℕ → Reply → List ℕ → Type 0
SpellsAnswer opcode unique reply bytes = (form : ReplyForm) × (answer_form opcode ≡ Some form) × SpellsReply form unique reply bytes
