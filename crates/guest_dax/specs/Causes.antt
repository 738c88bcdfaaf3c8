-- Why a call was refused, by the one request that it sent.
use Rattle.std.specs.Prelude.{◌≡◌, ℕ, List, Result, Ok, Err, ◌⊎◌}
use Rattle.fuse_codec.specs.Replies.{clean_reply}
use Rattle.fuse_codec.specs.declared.messages.Request.{Request}
use Rattle.fuse_codec.specs.declared.replies.Reply.{Reply}
use Rattle.fuse_codec.specs.declared.replies.Reply.TheVariants as replies
use Rattle.guest_wire.specs.Wires.{WireView, Boards, Sent}
use Rattle.guest_wire.specs.Requests.{message, next_number, remove_request}
use Rattle.guest_wire.specs.Answers.{Answers}
use Rattle.guest_wire.specs.declared.wires.WireError.{WireError}
use Rattle.guest_wire.specs.declared.wires.WireRefusal.{WireRefusal}
use Rattle.guest_wire.specs.declared.wires.WireRefusal.TheVariants as wires
use Rattle.guest_dax.specs.declared.refusals.DaxRefusal.{DaxRefusal}
use Rattle.guest_dax.specs.declared.refusals.DaxRefusal.TheVariants as refusals

-- the answer has no value in it
abbrev pub SaysDone : Unit {0} → Reply → Type 0
SaysDone u reply = reply ≡ replies.Done

-- A request was sent over the wire as it was, with the next number, and this is what came of it.
pub record IsAnswered {S : Type 0} (wire : S → WireView) (gives : S → Boards → Sent → Result (List ℕ) WireError → S → Boards → Type 0) (before : S) (unique : ℕ) (result : Result (Unit {0}) WireRefusal) (after : S) (now : ℕ) : Type 0 where
  pub node : ℕ
  pub body : Request
  pub old : Boards
  pub new : Boards
  pub answer : Answers wire gives SaysDone before old (message (next_number unique) node body) result after new
  pub number : now ≡ next_number unique

-- it succeeded, and these are the bytes of its reply
pub record IsReplied {S : Type 0} (wire : S → WireView) (gives : S → Boards → Sent → Result (List ℕ) WireError → S → Boards → Type 0) (before : S) (unique : ℕ) (bytes : List ℕ) (after : S) (now : ℕ) : Type 0 where
  pub answered : IsAnswered wire gives before unique (Ok tt) after now
  pub bytes_are : bytes ≡ clean_reply now replies.Done

-- REMOVEMAPPING of this range was sent, and it succeeded
pub record IsUnmapped {S : Type 0} (wire : S → WireView) (gives : S → Boards → Sent → Result (List ℕ) WireError → S → Boards → Type 0) (before : S) (unique range : ℕ) (after : S) (now : ℕ) : Type 0 where
  pub answered : IsAnswered wire gives before unique (Ok tt) after now
  pub body_is : answered.body ≡ remove_request range

-- a range was taken free, and nothing was sent; or it was unmapped by one request
abbrev pub IsUnmappedOrFree : {S : Type 0} → (S → WireView) → (S → Boards → Sent → Result (List ℕ) WireError → S → Boards → Type 0) → S → ℕ → ℕ → S → ℕ → Type 0
IsUnmappedOrFree wire gives before unique range after now = ((after ≡ before) × (now ≡ unique)) ⊎ IsUnmapped wire gives before unique range after now

-- A call of one request at most was refused by what came of its request. `Busy` sends none, and of want of memory nothing is said.
abbrev pub IsCause : {S : Type 0} → (S → WireView) → (S → Boards → Sent → Result (List ℕ) WireError → S → Boards → Type 0) → S → ℕ → DaxRefusal → S → ℕ → Type 0
IsCause wire gives before unique (refusals.Busy looked) after now = (after ≡ before) × (now ≡ unique)
IsCause wire gives before unique (refusals.Errno number) after now = IsAnswered wire gives before unique (Err (wires.Errno number)) after now
IsCause wire gives before unique (refusals.BadReply bytes) after now = IsAnswered wire gives before unique (Err (wires.BadReply bytes)) after now ⊎ IsReplied wire gives before unique bytes after now
IsCause wire gives before unique refusals.WireFault after now = IsAnswered wire gives before unique (Err wires.WireFault) after now
IsCause wire gives before unique refusals.Memory after now = Unit {0}

-- the refusal of a request that succeeded, after which the window hasn't what was asked for: the bytes of its reply, or want of memory for them
abbrev pub IsUndone : ℕ → DaxRefusal → Type 0
IsUndone unique (refusals.BadReply bytes) = bytes ≡ clean_reply unique replies.Done
IsUndone unique refusals.Memory = Unit {0}
IsUndone unique e = ⊥
