-- What a call of a guest answers: by a request, or through the window.
use Rattle.std.proofs.Common.{◌≡◌, ap, refl, ℕ, ◌<◌, List, length, Result, Ok, Err, inl, inr}
use Rattle.plain_file.specs.declared.operations.Op.{Op}
use Rattle.plain_file.specs.declared.operations.Op.TheVariants as ops
use Rattle.plain_file.specs.declared.operations.Way.{Way}
use Rattle.plain_file.specs.declared.operations.Way.TheVariants as ways
use Rattle.page_map.specs.declared.pages.Mode.TheVariants as modes
use Rattle.page_map.specs.Board.{MapView, RangesView}
use Rattle.range_tree.specs.Ranges.{range_count}
use Rattle.fuse_codec.specs.declared.messages.Message.{Message}
use Rattle.fuse_codec.specs.declared.replies.Reply.{Reply}
use Rattle.fuse_device.specs.State.{World}
use Rattle.guest_wire.specs.Wires.{WireView, Boards, Sent}
use Rattle.guest_wire.specs.declared.wires.WireError.{WireError}
use Rattle.guest_wire.specs.declared.wires.WireRefusal.{WireRefusal}
use Rattle.guest_wire.specs.Keeps.{KeepsPages}
use Rattle.guest_dax.specs.Stands.{Stand, stand}
use Rattle.guest_dax.specs.Looks.{NoLooks}
use Rattle.guest_dax.proofs.Walking.{KeepsMap-pages}
use Rattle.guest_io.specs.declared.calls.Done.{Done}
use Rattle.guest_io.specs.declared.calls.Refusal.{Refusal}
use Rattle.guest_io.specs.declared.calls.Refusal.TheVariants as refusals
use Rattle.guest_io.specs.Requests.{SendsRest, Sends}
use Rattle.guest_io.specs.Windows.{GoesThrough}
use Rattle.guest_io.specs.Going.{LeavesAll, IsRefused, Reads, Writes, KeepsRounds}
use Rattle.guest_io.proofs.Sending.{Asks, asks-rest}
use Rattle.guest_io.proofs.Staying.{StaysBoard-kept}
use Rattle.guest_io.proofs.Holding.{NoLooks-but}

-- ---- by a request

pub LeavesAll-sent : (s t : Stand) (call : ℕ) (way : Way) → SendsRest s call way t → LeavesAll s t
LeavesAll-sent s t call way k = record { wire = k.wire; files = StaysBoard-kept s.files t.files call way k.files; map = KeepsMap-pages s.map t.map k.map; hands = k.map.hands }

pub asks-leaves : {S V : Type 0} (wire : S → WireView) (gives : S → Boards → Sent → Result (List ℕ) WireError → S → Boards → Type 0) (says : V → Reply → Type 0) (before : S) (old : Boards) (call : ℕ) (way : Way) (m : Message) (file : ℕ) (op : Op) (reply : World → Reply) (result : Result V WireRefusal) (after : S) (new : Boards)
    → Asks wire gives says before old call way m file op reply result after new → LeavesAll (stand (wire before) old.files old.map) (stand (wire after) new.files new.map)
asks-leaves wire gives says before old call way m file op reply result after new a =
    LeavesAll-sent (stand (wire before) old.files old.map) (stand (wire after) new.files new.map) call way (asks-rest wire gives says before old call way m file op reply result after new a)

no-looks : (s t : MapView) → KeepsPages s t → NoLooks s → NoLooks t
no-looks s t k none = NoLooks-but s s t refl none (ap (λ (r : RangesView). r.looks) k.ranges) k.hands

pub KeepsRounds-same : {T : Type 0} (s t : MapView) (r : Result T Refusal) → t.ranges.rounds ≡ s.ranges.rounds → KeepsRounds s r t
KeepsRounds-same s t (Ok d) e = e
KeepsRounds-same s t (Err (refusals.Busy looked)) e = e
KeepsRounds-same s t (Err (refusals.Errno number)) e = e
KeepsRounds-same s t (Err (refusals.Leased count)) e = e
KeepsRounds-same s t (Err (refusals.NoHold hold)) e = e
KeepsRounds-same s t (Err (refusals.Past end)) e = e
KeepsRounds-same s t (Err (refusals.BadReply bytes)) e = e
KeepsRounds-same s t (Err refusals.WireFault) e = e
KeepsRounds-same s t (Err refusals.Memory) e = tt

pub KeepsRounds-sent : {T : Type 0} (s t : Stand) (call : ℕ) (way : Way) (r : Result T Refusal) → SendsRest s call way t → KeepsRounds s.map r t.map
KeepsRounds-sent s t call way r k = KeepsRounds-same s.map t.map r (ap (λ (x : RangesView). x.rounds) k.map.ranges)

pub IsRefused-sent : (s t : Stand) (file call : ℕ) (op : Op) (way : Way) (off len : ℕ) (e : Refusal) → SendsRest s call way t → NoLooks s.map → Sends s file call op way (Err e) t → IsRefused s file call op off len e t
IsRefused-sent s t file call op way off len (refusals.Busy looked) k looks h = absurd h
IsRefused-sent s t file call op way off len (refusals.Leased count) k looks h = absurd h
IsRefused-sent s t file call op way off len (refusals.NoHold hold) k looks h = absurd h
IsRefused-sent s t file call op way off len (refusals.Past end) k looks h = absurd h
IsRefused-sent s t file call op way off len (refusals.Errno number) k looks h = (no-looks s.map t.map k.map looks, h)
IsRefused-sent s t file call op way off len (refusals.BadReply bytes) k looks h = (no-looks s.map t.map k.map looks, h)
IsRefused-sent s t file call op way off len refusals.WireFault k looks (not_honest, rose) = (no-looks s.map t.map k.map looks, not_honest, rose)
IsRefused-sent s t file call op way off len refusals.Memory k looks h = (
  no-looks s.map t.map k.map looks,
  λ honest. elim (h honest) [
    | inl undone ↦ inl undone
    | inr made ↦ inr (made.0, way, made.1)
  ],
)

pub Reads-sent : (s t : Stand) (file call off len : ℕ) (r : Result Done Refusal) → range_count s.map ≡ 0 → SendsRest s call ways.Req t → NoLooks s.map → Sends s file call (ops.Read off len) ways.Req r t → Reads s file call off len r t
Reads-sent s t file call off len (Ok d) none k looks h = (no-looks s.map t.map k.map looks, (ways.Req, none, h.1))
Reads-sent s t file call off len (Err e) none k looks h = IsRefused-sent s t file call (ops.Read off len) ways.Req off len e k looks h

pub NoLooks-sent : (s t : Stand) (call : ℕ) (way : Way) → SendsRest s call way t → NoLooks s.map → NoLooks t.map
NoLooks-sent s t call way k looks = no-looks s.map t.map k.map looks

pub Writes-sent : (s t : Stand) (file call off : ℕ) (bytes : List ℕ) (r : Result Done Refusal) → range_count s.map ≡ 0 → SendsRest s call ways.Req t → NoLooks s.map → Sends s file call (ops.Write off bytes) ways.Req r t → Writes s file call off bytes r t
Writes-sent s t file call off bytes (Ok d) none k looks h = (no-looks s.map t.map k.map looks, (ways.Req, λ honest. (h.1 honest, none)))
Writes-sent s t file call off bytes (Err e) none k looks h = IsRefused-sent s t file call (ops.Write off bytes) ways.Req off (length bytes) e k looks h

-- ---- through the window

pub Reads-through : (s t : Stand) (file call off len : ℕ) (r : Result Done Refusal) → 0 < range_count s.map → GoesThrough s file call (ops.Read off len) off len modes.R r t → Reads s file call off len r t
Reads-through s t file call off len (Ok d) some (looks, (first, second, covers, does)) = (looks, (ways.Via first second, (some, covers), λ honest. (does honest).0))
Reads-through s t file call off len (Err e) some h = h
