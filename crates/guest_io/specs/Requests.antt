-- What a request about a file is answered, and what it leaves.
use Rattle.std.specs.Prelude.{◌≡◌, ◌≢◌, ℕ, true, false, List, ◌++◌, Option, Some, Result, Ok, Err, ◌⊎◌, All}
use Rattle.plain_file.specs.Counts.{Rose}
use Rattle.plain_file.specs.declared.operations.Answer.{Answer}
use Rattle.plain_file.specs.declared.operations.Answer.TheVariants as answers
use Rattle.plain_file.specs.declared.operations.Entry.{Entry}
use Rattle.plain_file.specs.declared.operations.Op.{Op}
use Rattle.plain_file.specs.declared.operations.Way.{Way}
use Rattle.plain_file.specs.Board.{BoardView, file_at, marked, last_of}
use Rattle.fuse_codec.specs.Replies.{clean_reply}
use Rattle.fuse_codec.specs.declared.replies.Reply.{Reply}
use Rattle.fuse_codec.specs.declared.replies.Reply.TheVariants as replies
use Rattle.guest_wire.specs.Wires.{KeepsWire}
use Rattle.guest_wire.specs.Keeps.{KeepsFiles, KeepsPages}
use Rattle.guest_wire.specs.declared.driver.FileRef.{FileRef}
use Rattle.guest_wire.specs.declared.wires.WireRefusal.{WireRefusal}
use Rattle.guest_wire.specs.declared.wires.WireRefusal.TheVariants as wires
use Rattle.guest_dax.specs.Stands.{Stand, Stands}
use Rattle.guest_io.specs.Calls.{Directs, OthersStay}
use Rattle.guest_io.specs.Notes.{KeepsNotes}
use Rattle.guest_io.specs.declared.calls.Done.{Done}
use Rattle.guest_io.specs.declared.calls.Refusal.{Refusal}
use Rattle.guest_io.specs.declared.calls.Refusal.TheVariants as refusals

-- what a guest rests on: its ranges stand, and where its wire hands requests to the whole daemon, the board of files is a plain one
pub record IsHome (s : Stand) (refs : List FileRef) : Type 0 where
  pub stands : Stands s refs
  pub plain : s.wire.honest ≡ true → s.wire.stays ≡ false → s.files.plain ≡ true

-- what the reply to a request about a file says of its operation
unfoldable pub answer_in : Reply → Answer
answer_in (replies.Bytes bytes) = answers.Bytes bytes
answer_in (replies.Wrote r) = answers.Wrote r.size
answer_in (replies.Attr r) = answers.Size r.attr.size
answer_in reply = answers.Size 0

-- the board's newest entry in the file, if any, is the one from before
abbrev pub IsNothingNew : List ℕ → Option ℕ → Type 0
IsNothingNew own before = (place : ℕ) → last_of own ≡ Some place → before ≡ Some place

-- The reply to the request of this number, by the places of the board's own entries in the file: the answer to its newest entry, where that isn't the one from before; else the bytes of the reply, or want of memory for them.
abbrev pub IsEntered : List ℕ → Option ℕ → ℕ → Reply → Result Done Refusal → Type 0
IsEntered own before unique reply (Ok d) = (last_of own ≡ Some d.place) × (before ≢ Some d.place) × (d.answer ≡ answer_in reply)
IsEntered own before unique reply (Err (refusals.BadReply bytes)) = IsNothingNew own before × (bytes ≡ clean_reply unique reply)
IsEntered own before unique reply (Err refusals.Memory) = IsNothingNew own before
IsEntered own before unique reply (Err e) = ⊥

-- what is answered where a request succeeded and nothing was done: the bytes of its reply, or want of memory for them
abbrev pub IsNotDone : ℕ → Reply → Refusal → Type 0
IsNotDone unique reply (refusals.BadReply bytes) = bytes ≡ clean_reply unique reply
IsNotDone unique reply refusals.Memory = Unit {0}
IsNotDone unique reply e = ⊥

-- the refusal of a request as one of this crate
abbrev pub IsRefusalOf : WireRefusal → Refusal → Type 0
IsRefusalOf (wires.Errno number) e = e ≡ refusals.Errno number
IsRefusalOf (wires.BadReply bytes) e = e ≡ refusals.BadReply bytes
IsRefusalOf wires.WireFault e = e ≡ refusals.WireFault
IsRefusalOf wires.Memory e = e ≡ refusals.Memory

-- What a request about a file leaves of the wire and both boards, whatever is answered: as much is pinned, leased, barred, had and moved as before.
pub record SendsRest (old : Stand) (call : ℕ) (way : Way) (new : Stand) : Type 0 where
  pub wire : KeepsWire old.wire new.wire
  pub files : KeepsFiles (marked old.files call way) new.files
  pub map : KeepsPages old.map new.map

-- No operation was done: of one file others' entries may have been seen, and sizes that were noted may have got their upper ends.
pub record IsUndone (old : BoardView) (file : ℕ) (new : BoardView) : Type 0 where
  pub more : List Entry
  pub others : All (λ e. e.guest ≢ old.guest) more
  pub history : (file_at new file).history ≡ (file_at old file).history ++ more
  pub own : (file_at new file).own ≡ (file_at old file).own
  pub stay : OthersStay old file new
  pub notes : KeepsNotes (file_at old file) (file_at new file)

-- the newest entry of the board in the file is a new one, at this place
abbrev pub IsNewest : BoardView → ℕ → ℕ → BoardView → Type 0
IsNewest old file place new = (last_of (file_at new file).own ≡ Some place) × (last_of (file_at old file).own ≢ Some place)

-- What comes of one request about a file. Over an honest wire it is the one entry of the call, and after want of memory it is that or nothing.
abbrev pub Sends : Stand → ℕ → ℕ → Op → Way → Result Done Refusal → Stand → Type 0
Sends old file call op way (Ok d) new = IsNewest old.files file d.place new.files × (old.wire.honest ≡ true → Directs old.files file call way op d new.files)
Sends old file call op way (Err (refusals.Busy looked)) new = ⊥
Sends old file call op way (Err (refusals.Leased count)) new = ⊥
Sends old file call op way (Err (refusals.NoHold hold)) new = ⊥
Sends old file call op way (Err (refusals.Past end)) new = ⊥
Sends old file call op way (Err (refusals.Errno number)) new = old.wire.honest ≡ false
Sends old file call op way (Err (refusals.BadReply bytes)) new = old.wire.honest ≡ false
Sends old file call op way (Err refusals.WireFault) new = (old.wire.honest ≡ false) × Rose old.wire.faults new.wire.faults
Sends old file call op way (Err refusals.Memory) new = old.wire.honest ≡ true → IsUndone old.files file new.files ⊎ ((d : Done) × Directs old.files file call way op d new.files)
