-- The forms of the device's contracts, and what they ask of the boards.
use Rattle.std.specs.Prelude.{◌≡◌, ℕ, ◌*◌, ◌<◌, ◌≤◌, true, List, length, Result, Ok, Err}
use Rattle.fuse_codec.specs.Replies.{is_reply, reply_len}
use Rattle.fuse_codec.specs.Reading.{message_of}
use Rattle.fuse_codec.specs.declared.messages.Message.{Message}
use Rattle.fuse_codec.specs.declared.messages.Request.{Request}
use Rattle.fuse_codec.specs.declared.messages.Request.TheVariants as asks
use Rattle.fuse_codec.specs.declared.replies.Reply.{Reply}
use Rattle.page_map.specs.Window.{page_size}
use Rattle.page_map.specs.Board.{MapView, may_clear}
use Rattle.plain_file.specs.Board.{BoardView, IsReady}
use Rattle.plain_file.specs.declared.refusals.Memory.{Memory}
use Rattle.fuse_device.specs.declared.refusals.Refused.{Refused}
use Rattle.fuse_device.specs.declared.refusals.Refused.TheVariants as refusals
use Rattle.fuse_device.specs.State.{State, World}
use Rattle.fuse_device.specs.Checks.{Outcome}
use Rattle.fuse_device.specs.Steps.{Step}

-- a device with boards
abbrev pub world : State → BoardView → MapView → World
world s files map = record { state = s; files = files; map = map }

-- the defined reply or error, and what it leaves; want of memory changes nothing
abbrev pub Gives : World → Outcome → Result Reply Refused → World → Type 0
Gives old o (Ok reply) new = o ≡ (Ok reply, new)
Gives old o (Err (refusals.Errno e)) new = (o ≡ (Err e, old)) × (new ≡ old)
Gives old o (Err refusals.Memory) new = new ≡ old

-- a reply goes over the wire, and takes at most so many bytes with its header
pub record IsWithin (room : ℕ) (reply : Reply) : Type 0 where
  pub good : is_reply reply ≡ true
  pub fits : reply_len reply ≤ room

-- The board has every made file, ready.
pub record HasFiles (s : State) (v : BoardView) : Type 0 where
  pub there : length s.made ≤ length v.files
  pub ready : (file : ℕ) → file < length s.made → IsReady v file

-- While fewer than 16 are made, the board has the next one too, ready.
abbrev pub HasNext : State → BoardView → Type 0
HasNext s v = length s.made < 16 → (length s.made < length v.files) × IsReady v (length s.made)

-- The board lets the whole window be cleared, where it has pages.
abbrev pub MayClearAll : State → MapView → Type 0
MayClearAll s v = 0 < s.pages → may_clear v 0 (page_size * s.pages) ≡ true

-- What one request asks of the boards besides.
unfoldable pub Needs : State → BoardView → MapView → Request → Type 0
Needs s files map (asks.Create r name) = HasNext s files
Needs s files map asks.Destroy = MayClearAll s map
Needs s files map request = Unit {0}

-- The boards are those of the device, and ready for this request.
pub record CanServe (s : State) (files : BoardView) (map : MapView) (request : Request) : Type 0 where
  pub made : HasFiles s files
  pub pages : length map.table ≡ s.pages
  pub needs : Needs s files map request

-- The same, where bytes are a request.
abbrev pub CanStep : State → BoardView → MapView → List ℕ → Type 0
CanStep s files map readable = (m : Message) → message_of readable ≡ Ok m → CanServe s files map m.body

-- the defined bytes and what they leave; want of memory changes nothing
abbrev pub Steps : World → Step → Result (List ℕ) Memory → World → Type 0
Steps old step (Ok bytes) new = step ≡ (new, bytes)
Steps old step (Err e) new = new ≡ old

-- Boards that one caller has for itself: 16 plain files or more, all ready, and the plain map of a window of the device's pages. Any request can be served over them.
pub record IsServable (w : World) : Type 0 where
  pub plain : w.files.plain ≡ true
  pub enough : 16 ≤ length w.files.files
  pub ready : (file : ℕ) → file < length w.files.files → IsReady w.files file
  pub few : length w.state.made ≤ 16
  pub free : w.map.plain ≡ true
  pub pages : length w.map.table ≡ w.state.pages
