-- What becomes of a stream, as a function of the bytes that are still to come, and what was done of it.
use Rattle.std.specs.Prelude.{◌≡◌, ℕ, ◌+◌, ◌≤◌, Bool, true, false, ◌||◌, nat_lt, List, ◌++◌, length, Option, IfSome}
use Rattle.std.specs.Io.KnownBytes.{Appends, Consumes, Keeps, IsAtEnd}
use Rattle.std.specs.declared.ops.ControlFlow.{ControlFlow}
use Rattle.std.specs.declared.ops.ControlFlow.TheVariants.{Continue, Break}
use Rattle.std.specs.ControlFlow.{MatchControlFlow}
use Rattle.plain_file.specs.Counts.{Rose}
use Rattle.program_io.specs.Causes.{AppendsFront, AppendsPart}
use Rattle.program_io.specs.declared.statuses.Status.{Status}
use Rattle.program_io.specs.declared.statuses.Status.TheVariants as statuses
use Rattle.fuse_wire.specs.Records.{u32_at}
use Rattle.chain_stream.specs.declared.frames.End.{End}
use Rattle.chain_stream.specs.declared.frames.End.TheVariants as ends
use Rattle.chain_stream.specs.declared.frames.Reason.TheVariants as reasons
use Rattle.chain_stream.specs.declared.frames.Lead.{Lead}
use Rattle.chain_stream.specs.declared.frames.Lead.TheVariants as leads
use Rattle.chain_stream.specs.Frames.{Frame, frames, frames_from, lead_at, is_decided, limit, header_len}

-- the most bytes that one read takes
abbrev pub chunk : ℕ
chunk = 65536

-- the bytes that were read and not used yet, and their offset in the input
pub record PendingView : Type 0 where
  pub rest : List ℕ
  pub at : ℕ

-- What becomes of a stream that goes on with these bytes and then ends: what is written in answer to its whole frames, how it ends, and whether more bytes could follow.
pub record Course : Type 0 where
  pub text : List ℕ → List ℕ
  pub «end» : List ℕ → End
  pub may_go_on : List ℕ → Bool

-- more bytes could follow: the stream ends after a whole frame or within one
unfoldable pub is_open : End → Bool
is_open ends.Ended = true
is_open (ends.Malformed reasons.Header at) = false
is_open (ends.Malformed reasons.Kind at) = false
is_open (ends.Malformed reasons.Bound at) = false
is_open (ends.Malformed reasons.Cut at) = true
is_open ends.TooLong = false

-- the status of a stream that ends so
unfoldable pub status_of : End → Status
status_of ends.Ended = statuses.Ok
status_of (ends.Malformed reason at) = statuses.Refused
status_of ends.TooLong = statuses.TooLong

-- the course of the frames that follow these bytes, of which somebody says this
abbrev pub course_from : (List Frame → List ℕ) → PendingView → Course
course_from says p = record {
  text = λ more. says (frames_from p.at (p.rest ++ more)).whole;
  «end» = λ more. (frames_from p.at (p.rest ++ more)).«end»;
  may_go_on = λ more. is_open (frames_from p.at (p.rest ++ more)).«end»;
}

-- the course of a whole stream, where what is said of its frames hangs on how many pages its header says
abbrev pub course_by : (ℕ → List Frame → List ℕ) → Course
course_by says = record {
  text = λ input. says (u32_at input 8) (frames input).whole;
  «end» = λ input. (frames input).«end»;
  may_go_on = λ input. nat_lt (length input) header_len || is_open (frames input).«end»;
}

-- the course of a whole stream
abbrev pub course_of : (List Frame → List ℕ) → Course
course_of says = course_by (λ pages. says)

-- the same course, where this text is due before all else
abbrev pub after_text : List ℕ → Course → Course
after_text text c = record c { text = λ more. text ++ c.text more }

-- all that is due for a stream that goes on with these bytes
abbrev pub due : Course → (End → List ℕ) → List ℕ → List ℕ
due c ending more = c.text more ++ ending (c.«end» more)

-- frames were answered: the text so far with the answers to what follows stays the same, whatever follows
pub record Answers (says says' : List Frame → List ℕ) (p p' : PendingView) (text text' : List ℕ) : Type 0 where
  pub text_is : (more : List ℕ) → text ++ (course_from says p).text more ≡ text' ++ (course_from says' p').text more
  pub end_is : (more : List ℕ) → (frames_from p.at (p.rest ++ more)).«end» ≡ (frames_from p'.at (p'.rest ++ more)).«end»

-- the end of a stream that ends here, within a frame or not
unfoldable pub open_end : Lead → ℕ → End
open_end (leads.Chain parts readable room) at = ends.Ended
open_end (leads.Load moffset len) at = ends.Ended
open_end (leads.Store moffset len) at = ends.Ended
open_end (leads.Bad reason) at = ends.Malformed reason at
open_end leads.Cut at = ends.Malformed reasons.Cut at
open_end leads.Nothing at = ends.Ended

-- the pending bytes are a part of a frame or none, within the limit
pub record IsUndecided (p : PendingView) (f : Lead) : Type 0 where
  pub lead_is : f ≡ lead_at p.at p.rest
  pub undecided : is_decided f ≡ false
  pub within : p.at + length p.rest ≤ limit

-- bytes were read, and no more are counted than were
pub record Took (p p' : PendingView) (left left' : Option (List ℕ)) : Type 0 where
  pub read : List ℕ
  pub consumed : Consumes left left' read
  pub counted : p'.at + length p'.rest ≡ p.at + length p.rest + length read
  pub within : p'.at + length p'.rest ≤ limit + chunk

-- so many bytes were read, and so many written, of the course
pub record Went (before after : Course) (left left' taken taken' : Option (List ℕ)) : Type 0 where
  pub read : List ℕ
  pub written : List ℕ
  pub consumed : Consumes left left' read
  pub appended : Appends taken taken' written
  pub text : (more : List ℕ) → before.text (read ++ more) ≡ written ++ after.text more
  pub «end» : (more : List ℕ) → before.«end» (read ++ more) ≡ after.«end» more
  pub may_go_on : (more : List ℕ) → before.may_go_on (read ++ more) ≡ after.may_go_on more

-- the whole of what is due was written, for what the source had left, and the status is that of the stream's end
abbrev pub IsDone : Course → (End → List ℕ) → Option (List ℕ) → Option (List ℕ) → Option (List ℕ) → Status → Type 0
IsDone c ending left taken taken' status = IfSome left (λ more. (status ≡ status_of (c.«end» more)) × Appends taken taken' (due c ending more))

-- the source failed: what was written are the answers to the frames that were read whole
pub record IsCutOff (c : Course) (left left' taken taken' : Option (List ℕ)) : Type 0 where
  pub read : List ℕ
  pub consumed : Consumes left left' read
  pub may_go_on : c.may_go_on read ≡ true
  pub appended : Appends taken taken' (c.text read)

-- what a status says of a course that was followed to its end
abbrev pub Ends : Course → (End → List ℕ) → Option (List ℕ) → Option (List ℕ) → Option (List ℕ) → Option (List ℕ) → ℕ → ℕ → ℕ → ℕ → Status → Type 0
Ends c ending left left' taken taken' reads reads' writes writes' statuses.Ok = IsAtEnd left' × IsDone c ending left taken taken' statuses.Ok
Ends c ending left left' taken taken' reads reads' writes writes' statuses.Refused = IsDone c ending left taken taken' statuses.Refused
Ends c ending left left' taken taken' reads reads' writes writes' statuses.TooLong = IsDone c ending left taken taken' statuses.TooLong
Ends c ending left left' taken taken' reads reads' writes writes' statuses.ReadFault = Rose reads reads' × IsCutOff c left left' taken taken'
Ends c ending left left' taken taken' reads reads' writes writes' statuses.WriteFault = Rose writes writes' × IfSome left (λ more. AppendsPart taken taken' (due c ending more))
Ends c ending left left' taken taken' reads reads' writes writes' statuses.Memory = IfSome left (λ more. AppendsFront taken taken' (due c ending more))
Ends c ending left left' taken taken' reads reads' writes writes' statuses.Usage = ⊥
Ends c ending left left' taken taken' reads reads' writes writes' statuses.NotLegal = ⊥

-- What following a course did: it goes on as another one, or it came to its end with a status.
abbrev pub Follows : {C : Type 0} → Course → Course → (End → List ℕ) → Option (List ℕ) → Option (List ℕ) → Option (List ℕ) → Option (List ℕ) → ℕ → ℕ → ℕ → ℕ → ControlFlow Status C → Type 0
Follows before after ending left left' taken taken' reads reads' writes writes' (Continue x) = Went before after left left' taken taken'
Follows before after ending left left' taken taken' reads reads' writes writes' (Break status) = Ends before ending left left' taken taken' reads reads' writes writes' status

-- P of what a stream that goes on has
abbrev pub IfContinue : {B C : Type 0} → ControlFlow B C → (C → Type 0) → Type 0
IfContinue f P = MatchControlFlow f P (λ b. Unit {0})

-- P where a stream goes on
abbrev pub OnContinue : {B C : Type 0} → ControlFlow B C → Type 0 → Type 0
OnContinue f P = MatchControlFlow f (λ c. P) (λ b. Unit {0})

-- what writing a text and then nothing more leaves, by the status: all of it, a part, or nothing
abbrev pub Writes : List ℕ → Status → Option (List ℕ) → Option (List ℕ) → ℕ → ℕ → Status → Type 0
Writes text due_status taken taken' writes writes' statuses.WriteFault = Rose writes writes' × AppendsPart taken taken' text
Writes text due_status taken taken' writes writes' statuses.Memory = Keeps taken taken'
Writes text due_status taken taken' writes writes' statuses.Ok = (due_status ≡ statuses.Ok) × Appends taken taken' text
Writes text due_status taken taken' writes writes' statuses.Refused = (due_status ≡ statuses.Refused) × Appends taken taken' text
Writes text due_status taken taken' writes writes' statuses.TooLong = (due_status ≡ statuses.TooLong) × Appends taken taken' text
Writes text due_status taken taken' writes writes' statuses.ReadFault = ⊥
Writes text due_status taken taken' writes writes' statuses.Usage = ⊥
Writes text due_status taken taken' writes writes' statuses.NotLegal = ⊥
