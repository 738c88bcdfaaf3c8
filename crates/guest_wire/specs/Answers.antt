-- What bytes say to a request, and what a driver answers by them.
use Rattle.std.specs.Prelude.{◌≡◌, ℕ, ◌==◌, true, false, nat_lt, List, length, Option, Some, None, Result, Ok, Err, ◌⊎◌, if◌then◌else◌}
use Rattle.fuse_wire.specs.declared.opens.OpenOut.{OpenOut}
use Rattle.fuse_codec.specs.Grammar.{kind_of, clean_message, Spells}
use Rattle.fuse_codec.specs.Opcodes.{reply_form}
use Rattle.fuse_codec.specs.ReplyReading.{reply_of}
use Rattle.fuse_codec.specs.declared.errors.BadReply.{BadReply}
use Rattle.fuse_codec.specs.declared.messages.Message.{Message}
use Rattle.fuse_codec.specs.declared.opcodes.Opcode.{Opcode}
use Rattle.fuse_codec.specs.declared.replies.Reply.{Reply}
use Rattle.fuse_codec.specs.declared.replies.Reply.TheVariants as replies
use Rattle.fuse_device.specs.State.{World}
use Rattle.fuse_device.specs.Steps.{wanted_room}
use Rattle.guest_wire.specs.declared.driver.Spelled.{Spelled}
use Rattle.guest_wire.specs.declared.wires.WireError.{WireError}
use Rattle.guest_wire.specs.declared.wires.WireError.TheVariants as errors
use Rattle.guest_wire.specs.declared.wires.WireRefusal.{WireRefusal}
use Rattle.guest_wire.specs.declared.wires.WireRefusal.TheVariants as refusals
use Rattle.plain_file.specs.Counts.{Rose}
use Rattle.guest_wire.specs.Wires.{WireView, Boards, Sent, world_at, Honest}
use Rattle.guest_wire.specs.Requests.{sent}

-- the reply, where it is to this number
unfoldable pub numbered : ℕ → Result (ℕ × Reply) BadReply → Option Reply
numbered unique (Ok (n, reply)) = if n == unique then Some reply else None
numbered unique (Err bad) = None

-- The reply that bytes are to a request of this number and operation: within the room, decoded by the operation, with the number. None for all other bytes.
unfoldable pub heard_as : ℕ → Opcode → ℕ → List ℕ → Option Reply
heard_as unique opcode room bytes =
    if nat_lt room (length bytes) then None
    else numbered unique (reply_of (reply_form opcode) bytes)

-- the reply to a message that bytes are
abbrev pub heard : Message → List ℕ → Option Reply
heard m bytes = heard_as m.head.unique (kind_of m.body) (wanted_room m.body) bytes

-- a message as it is sent: its bytes, and what its reply is known by
pub record IsSpelled (m : Message) (s : Spelled) : Type 0 where
  pub number : s.unique ≡ m.head.unique
  pub opcode : s.opcode ≡ kind_of m.body
  pub room : s.room ≡ wanted_room m.body
  pub clean : s.bytes ≡ clean_message m
  pub spelled : Spells m s.bytes

-- What is answered by bytes that were received: a value where they are a success that says it, an error's number, or the bytes where they are no reply to the message.
abbrev pub Judges : {V : Type 0} → (V → Reply → Type 0) → Option Reply → List ℕ → Result V WireRefusal → Type 0
Judges says reply bytes (Ok v) = (r : Reply) × (reply ≡ Some r) × says v r
Judges says reply bytes (Err (refusals.Errno number)) = reply ≡ Some (replies.Error number)
Judges says reply bytes (Err (refusals.BadReply bad)) = (reply ≡ None) × (bad ≡ bytes)
Judges says reply bytes (Err refusals.WireFault) = ⊥
Judges says reply bytes (Err refusals.Memory) = ⊥

-- A message was sent, and this came of it: its bytes spell it, and what came stands in what the wire gives for them.
pub record IsSent {S : Type 0} (wire : S → WireView) (gives : S → Boards → Sent → Result (List ℕ) WireError → S → Boards → Type 0) (before : S) (old : Boards) (m : Message) (came : Result (List ℕ) WireError) (after : S) (new : Boards) : Type 0 where
  pub spelled : Spells m (clean_message m)
  pub given : gives before old (sent m) came after new
  pub honest : (wire before).honest ≡ true → Honest (wire before) (world_at (wire before) old) (sent m) came (world_at (wire after) new)

-- nothing was sent
pub record IsUnsent {S : Type 0} (before : S) (old : Boards) (after : S) (new : Boards) : Type 0 where
  pub wire : after ≡ before
  pub boards : new ≡ old

-- What a call answers that sends one message: by the bytes that were received, or by the fault of the wire. An honest wire neither fails nor brings back bytes that are no reply. For want of memory nothing was sent, or the wire had none, or there was none for what the bytes say.
abbrev pub Answers : {S V : Type 0} → (S → WireView) → (S → Boards → Sent → Result (List ℕ) WireError → S → Boards → Type 0) → (V → Reply → Type 0) → S → Boards → Message → Result V WireRefusal → S → Boards → Type 0
Answers wire gives says before old m (Err refusals.WireFault) after new = ((wire before).honest ≡ false) × Rose (wire before).faults (wire after).faults × IsSent wire gives before old m (Err errors.Fault) after new
Answers wire gives says before old m (Err refusals.Memory) after new = IsUnsent before old after new ⊎ IsSent wire gives before old m (Err errors.Memory) after new ⊎ ((bytes : List ℕ) × IsSent wire gives before old m (Ok bytes) after new)
Answers wire gives says before old m (Err (refusals.BadReply bad)) after new = ((wire before).honest ≡ false) × ((bytes : List ℕ) × IsSent wire gives before old m (Ok bytes) after new × Judges says (heard m bytes) bytes (Err (refusals.BadReply bad)))
Answers wire gives says before old m result after new = (bytes : List ℕ) × IsSent wire gives before old m (Ok bytes) after new × Judges says (heard m bytes) bytes result

-- a handle was opened
abbrev pub SaysOpened : ℕ → Reply → Type 0
SaysOpened fh reply = (opened : OpenOut) × (reply ≡ replies.Opened opened) × (fh ≡ opened.fh)

-- so many bytes were written
abbrev pub SaysWrote : ℕ → Reply → Type 0
SaysWrote size reply = reply ≡ replies.Wrote (record { size = size })

-- the reply itself
abbrev pub SaysItself : Reply → Reply → Type 0
SaysItself v reply = v ≡ reply

-- what is made of bytes that are this reply, but for want of memory
abbrev pub JudgesOrNot : Option Reply → List ℕ → Result Reply WireRefusal → Type 0
JudgesOrNot reply bytes (Err refusals.Memory) = Unit {0}
JudgesOrNot reply bytes result = Judges SaysItself reply bytes result

-- a success, or an error's number
abbrev pub IsSuccessOrErrno : Reply → Result Reply WireRefusal → Type 0
IsSuccessOrErrno reply (Ok r) = r ≡ reply
IsSuccessOrErrno reply (Err (refusals.Errno number)) = reply ≡ replies.Error number
IsSuccessOrErrno reply (Err e) = ⊥

-- What a call answers whose request succeeds with this reply, and leaves: a value that says the reply, and this device; or want of memory.
abbrev pub Succeeded : {V : Type 0} → (V → Reply → Type 0) → Reply → World → Result V WireRefusal → World → Type 0
Succeeded says reply wanted (Ok v) new = says v reply × (new ≡ wanted)
Succeeded says reply wanted (Err refusals.Memory) new = Unit {0}
Succeeded says reply wanted (Err e) new = ⊥
