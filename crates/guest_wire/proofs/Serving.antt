-- Wires that hand requests to a daemon, and boards over which any request can be asked.
use Rattle.std.proofs.Common.{◌≡◌, ◌∙◌, sym, ap, subst, ℕ, Bool, true, false, true≢false, List, Result, Ok, Err, OnOk, OnErr, inl, inr}
use Rattle.plain_file.specs.Board.{BoardView}
use Rattle.plain_file.specs.declared.refusals.Memory.{Memory}
use Rattle.page_map.specs.Board.{MapView}
use Rattle.fuse_codec.specs.declared.messages.Message.{Message}
use Rattle.fuse_codec.specs.declared.messages.Request.{Request}
use Rattle.fuse_codec.specs.declared.replies.Reply.{Reply}
use Rattle.fuse_device.specs.State.{State, World}
use Rattle.fuse_device.specs.Steps.{device_step}
use Rattle.fuse_device.specs.Promises.{CanStep, IsServable, world}
use Rattle.fuse_device.proofs.Servable.{IsServable-device_step, servable_serves}
use Rattle.guest_wire.specs.Wires.{WireView, Boards, Sent, boards, world_at, Honest, IsStep, IsStepOrNot}
use Rattle.guest_wire.specs.declared.wires.WireError.{WireError}
use Rattle.guest_wire.specs.declared.wires.WireError.TheVariants as errors
use Rattle.guest_wire.proofs.Carrying.{carried_whole, honest_memory_whole}
use Rattle.guest_wire.specs.Keeps.{KeepsBoards}
use Rattle.guest_wire.specs.Requests.{CanAsk, ServesRequest, sent}
use Rattle.guest_wire.specs.Answers.{Answers, IsUnsent}
use Rattle.guest_wire.specs.declared.wires.WireRefusal.{WireRefusal}
use Rattle.guest_wire.specs.declared.wires.WireRefusal.TheVariants as refusals
use Rattle.guest_wire.proofs.StepKeeps.{KeepsBoards-same, KeepsBoards-device_step}

-- what the daemon served keeps what boards keep
pub KeepsBoards-serve_chain : (s : State) (files : BoardView) (map : MapView) (readable : List ℕ) (room : ℕ) (result : Result (List ℕ) Memory) (new : World) → CanStep s files map readable
    → OnOk result (new ≡ (device_step (world s files map) readable room).0) → OnErr result (new ≡ world s files map) → KeepsBoards (boards files map) (boards new.files new.map)
KeepsBoards-serve_chain s files map readable room (Ok bytes) new can step memory =
    subst (λ (w : World). KeepsBoards (boards files map) (boards w.files w.map)) (sym step) (KeepsBoards-device_step s files map readable room can)
KeepsBoards-serve_chain s files map readable room (Err e) new can step memory =
    subst (λ (w : World). KeepsBoards (boards files map) (boards w.files w.map)) (sym memory) (KeepsBoards-same files map)

-- any request can be asked of the whole daemon over boards that serve all
serves_by : (stays : Bool) (s : State) (b : Boards) (q : Request) → stays ≡ false → IsServable (world s b.files b.map) → ServesRequest stays s b q
serves_by false s b q whole h = servable_serves s b.files b.map q h
serves_by true s b q whole h = absurd (true≢false whole)

pub CanAsk-servable : (w : WireView) (b : Boards) (q : Request) → w.stays ≡ false → IsServable (world_at w b) → CanAsk w b q
CanAsk-servable w b q whole h honest = serves_by w.stays w.state b q whole h

servable_step : (old new : World) (s : Sent) (bytes : List ℕ) → IsStep old s bytes new → IsServable old → IsServable new
servable_step old new s bytes e h = subst IsServable (ap (λ (step : World × List ℕ). step.0) e) (IsServable-device_step old s.bytes s.room h)

servable_or_not : (old new : World) (s : Sent) → IsStepOrNot old s new → IsServable old → IsServable new
servable_or_not old new s (inl e) h = subst IsServable (sym e) h
servable_or_not old new s (inr e) h = subst IsServable (sym e) (IsServable-device_step old s.bytes s.room h)

-- so they do after an honest wire to it was asked
servable_sent : (w : WireView) (old new : World) (s : Sent) (came : Result (List ℕ) WireError) → w.stays ≡ false → Honest w old s came new → IsServable old → IsServable new
servable_sent w old new s (Ok bytes) whole h servable = servable_step old new s bytes (carried_whole w old s bytes new whole h) servable
servable_sent w old new s (Err errors.Memory) whole h servable = servable_or_not old new s (honest_memory_whole w old s new whole h) servable
servable_sent w old new s (Err errors.Fault) whole h servable = absurd h

servable_unsent : {S : Type 0} (wire : S → WireView) (before after : S) (old new : Boards) → IsUnsent before old after new → IsServable (world_at (wire before) old) → IsServable (world_at (wire after) new)
servable_unsent wire before after old new e h = rw (e.wire, e.boards) h

-- and after an answer over such a wire
pub IsServable-answer : {S V : Type 0} (wire : S → WireView) (gives : S → Boards → Sent → Result (List ℕ) WireError → S → Boards → Type 0) (says : V → Reply → Type 0) (before : S) (old : Boards) (m : Message) (result : Result V WireRefusal) (after : S) (new : Boards)
    → Answers wire gives says before old m result after new → (wire before).honest ≡ true → (wire before).stays ≡ false → IsServable (world_at (wire before) old) → IsServable (world_at (wire after) new)
IsServable-answer wire gives says before old m (Ok v) after new (bytes, came, judged) honest whole h = servable_sent (wire before) (world_at (wire before) old) (world_at (wire after) new) (sent m) (Ok bytes) whole (came.honest honest) h
IsServable-answer wire gives says before old m (Err (refusals.Errno number)) after new (bytes, came, judged) honest whole h = servable_sent (wire before) (world_at (wire before) old) (world_at (wire after) new) (sent m) (Ok bytes) whole (came.honest honest) h
IsServable-answer wire gives says before old m (Err (refusals.BadReply bad)) after new (not_honest, received) honest whole h = absurd (true≢false (sym honest ∙ not_honest))
IsServable-answer wire gives says before old m (Err refusals.WireFault) after new (not_honest, rose, came) honest whole h = absurd (true≢false (sym honest ∙ not_honest))
IsServable-answer wire gives says before old m (Err refusals.Memory) after new (inl unsent) honest whole h = servable_unsent wire before after old new unsent h
IsServable-answer wire gives says before old m (Err refusals.Memory) after new (inr (inl came)) honest whole h = servable_sent (wire before) (world_at (wire before) old) (world_at (wire after) new) (sent m) (Err errors.Memory) whole (came.honest honest) h
IsServable-answer wire gives says before old m (Err refusals.Memory) after new (inr (inr (bytes, came))) honest whole h = servable_sent (wire before) (world_at (wire before) old) (world_at (wire after) new) (sent m) (Ok bytes) whole (came.honest honest) h
