-- What `ring` prints: four lines for each chain that is served, and a last line.
use Rattle.std.specs.Prelude.{ℕ, zero, suc, List, [], ◌∷◌, ◌++◌, length, codes, Option, Some, None, Result, Ok, Err}
use Rattle.std.specs.Fmt.{decimal}
use Rattle.hex.specs.Hex.{encode_lower}
use Rattle.sha2.specs.Sha256.{sha256}
use Rattle.program_io.specs.declared.statuses.Status.{Status}
use Rattle.program_io.specs.declared.statuses.Status.TheVariants as statuses
use Rattle.fuse_codec.specs.Reading.{message_of}
use Rattle.fuse_codec.specs.declared.replies.Reply.{Reply}
use Rattle.fuse_codec.specs.declared.errors.BadReply.{BadReply}
use Rattle.fuse_text.specs.Lines.{reply_line}
use Rattle.vring.specs.declared.chains.Chain.{Chain}
use Rattle.vring.specs.declared.faults.RingFault.{RingFault}
use Rattle.vring.specs.declared.faults.RingFault.TheVariants as faults
use Rattle.vring.specs.Pieces.{total}
use Rattle.daxwire.specs.Show.{chain_line}
use Rattle.daxwire.specs.Wholes.{Due}
use Rattle.dax_device.specs.Answers.{reply_in}
use Rattle.dax_device.specs.Queues.{DeviceView, answer_to, answered, next_of, offered, popped, readable_in}
use Rattle.dax_device.specs.RingImage.{device_in}

-- ---- the lines of a chain

-- the head, and the sums of both parts
unfoldable pub heading : Chain → List ℕ
heading chain = codes "chain " ++ decimal chain.head ++ codes " readable " ++ decimal (total chain.readable) ++ codes " writable " ++ decimal (total chain.writable) ++ codes "\n"

-- the line of an answer that was read; bytes that are no reply have none
unfoldable pub line_of_read : Result (ℕ × Reply) BadReply → List ℕ
line_of_read (Ok answer) = reply_line answer.0 answer.1
line_of_read (Err bad) = []

-- the reply's line, or that there is no reply
unfoldable pub answer_line : List ℕ → List ℕ → List ℕ
answer_line readable [] = codes "no reply"
answer_line readable (byte ∷ bytes) = line_of_read (reply_in readable (byte ∷ bytes))

-- the four lines of a chain with its readable bytes and its answer
abbrev pub lines_of : Chain → List ℕ → List ℕ → List ℕ
lines_of chain readable answer =
    heading chain
    ++ chain_line (message_of readable) ++ codes "\n"
    ++ answer_line readable answer ++ codes "\n"
    ++ codes "used " ++ decimal (length answer) ++ codes "\n"

-- ---- the chains that are offered

-- the lines of the chains that were served, and the memory afterwards or the fault at which it ended
pub record Served : Type 0 where
  pub text : List ℕ
  pub left : Result (List ℕ) RingFault

-- a text, and then what follows
abbrev pub onto : List ℕ → Served → Served
onto text more = record more { text = text ++ more.text }

-- nothing is served any more
abbrev pub no_more : Result (List ℕ) RingFault → Served
no_more left = record { text = []; left = left }

-- what follows where this was found: a fault and no chain end it
abbrev pub found : DeviceView → Result (Option Chain) RingFault → (Chain → Served) → Served
found d (Err fault) serve = no_more (Err fault)
found d (Ok None) serve = no_more (Ok d.memory)
found d (Ok (Some chain)) serve = serve chain

-- what serving at most so many chains gives
unfoldable pub served_at_most : ℕ → DeviceView → Served
served_at_most zero d = no_more (Ok d.memory)
served_at_most (suc n) d =
    found d (next_of d)
    (λ chain. onto (lines_of chain (readable_in d chain) (answer_to d chain)) (served_at_most n (answered (popped d) chain)))

-- ---- the whole text

-- the name of a fault
unfoldable pub fault_name : RingFault → List ℕ
fault_name (faults.Jump behind) = codes "jump"
fault_name (faults.BadIndex index) = codes "index"
fault_name faults.Loop = codes "loop"
fault_name (faults.Indirect index) = codes "indirect"
fault_name (faults.Order index) = codes "order"
fault_name (faults.Outside addr len) = codes "outside"
fault_name (faults.Long sum) = codes "long"

-- the last line: the digest of the memory, or the fault
unfoldable pub last_line : Result (List ℕ) RingFault → List ℕ
last_line (Ok memory) = codes "memory " ++ encode_lower (sha256 memory) ++ codes "\n"
last_line (Err fault) = codes "fault " ++ fault_name fault ++ codes "\n"

-- all lines
abbrev pub text_of : Served → List ℕ
text_of served = served.text ++ last_line served.left

-- the status: a fault is refused
abbrev pub status_after : Result (List ℕ) RingFault → Status
status_after (Ok memory) = statuses.Ok
status_after (Err fault) = statuses.Refused

-- what is served of a device, as many chains as are offered before the first
abbrev pub all_served : DeviceView → Served
all_served d = served_at_most (offered d) d

-- the memory that is left, where there was no fault
abbrev pub left_by : Option RingFault → List ℕ → Result (List ℕ) RingFault
left_by None memory = Ok memory
left_by (Some fault) memory = Err fault

-- the text and the status that are due
abbrev pub due_of : Option DeviceView → Due
due_of None = record { text = codes "malformed image\n"; status = statuses.Refused }
due_of (Some d) = record { text = text_of (all_served d); status = status_after (all_served d).left }

-- what is due for an input of at most so many bytes as are looked at
unfoldable pub image_due : List ℕ → Due
image_due input = due_of (device_in input)
