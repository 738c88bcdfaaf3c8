-- What comes of a request in the turn of the file that it names, and what boards keep then.
use Rattle.std.proofs.Common.{◌≡◌, ◌≢◌, ◌∙◌, ap, sym, subst, refl, ℕ, ◌<◌, ◌≤◌, true, true≢false, arith, List, [], length, Option, Some, None, Result, Ok, Err, inl, inr, length-set}
use Rattle.std.specs.Prelude.{IfOk, OnOk, OnErr}
use Rattle.std.proofs.lemmas.List.Elements.{All-nil}
use Rattle.plain_file.specs.declared.operations.Entry.{Entry}
use Rattle.plain_file.specs.declared.refusals.Memory.{Memory}
use Rattle.plain_file.specs.Board.{BoardView, file_at, with_own, entry_of}
use Rattle.plain_file.specs.Turns.{AreOthers, seen_file, entered, left}
use Rattle.plain_file.proofs.OneFile.{file_at-with_file}
use Rattle.page_map.specs.Board.{MapView}
use Rattle.fuse_codec.specs.declared.messages.Message.{Message}
use Rattle.fuse_codec.specs.declared.replies.Reply.{Reply}
use Rattle.fuse_device.specs.State.{State, World}
use Rattle.fuse_device.specs.Steps.{Step}
use Rattle.fuse_device.specs.DataSteps.{data_step, named_file, CanStepData}
use Rattle.fuse_device.specs.Promises.{world, Steps}
use Rattle.fuse_device.proofs.Answering.{data_step_fits}
use Rattle.fuse_device.proofs.DataFiles.{data_step_files}
use Rattle.fuse_device.proofs.DataLaws.{named_within}
use Rattle.guest_wire.specs.Answers.{Answers}
use Rattle.guest_wire.specs.Keeps.{KeepsBoards}
use Rattle.guest_wire.specs.Requests.{sent}
use Rattle.guest_wire.proofs.Carrying.{carried_state}
use Rattle.guest_wire.specs.Wires.{WireView, Boards, boards, Sent, world_at, CanShare, turn_for, with_turn, without_turn, Honest}
use Rattle.guest_wire.specs.declared.wires.WireError.{WireError}
use Rattle.guest_wire.specs.declared.wires.WireError.TheVariants as errors
use Rattle.guest_wire.specs.declared.wires.WireRefusal.{WireRefusal}
use Rattle.guest_wire.specs.declared.wires.WireRefusal.TheVariants as refusals
use Rattle.dax_host.specs.Carrying.{Host}
use Rattle.dax_host.specs.InTurn.{shared_wire, ServesInTurn, CarriesInTurn}

-- ---- the daemon's step

-- it takes no turn and makes no file
step_hands : (w : World) (readable : List ℕ) (room : ℕ) → (data_step w readable room).0.files.hands ≡ w.files.hands
step_hands w readable room = elim (data_step_files w readable room) [
  | inl same ↦ ap (λ (v : BoardView). v.hands) same
  | inr on ↦ ap (λ (v : BoardView). v.hands) on.after
]

step_count : (w : World) (readable : List ℕ) (room : ℕ) → length (data_step w readable room).0.files.files ≡ length w.files.files
step_count w readable room = elim (data_step_files w readable room) [
  | inl same ↦ ap (λ (v : BoardView). length v.files) same
  | inr on ↦ ap (λ (v : BoardView). length v.files) on.after ∙ length-set w.files.files on.file (with_own w.files.plain (entry_of w.files on.op) (file_at w.files on.file))
]

-- what is said of the bytes, of what is left, and of want of memory, is one fact
pub steps : (old : World) (step : Step) (result : Result (List ℕ) Memory) (new : World) → IfOk result (λ b. b ≡ step.1) → OnOk result (new ≡ step.0) → OnErr result (new ≡ old) → Steps old step result new
steps old step (Ok bytes) new reply ok err = let same : step ≡ (new, bytes) = rw (reply, ok) refl in same
steps old step (Err e) new reply ok err = err

-- so the boards after a served request have the same in hand, and as many files
pub served_hands : (w : World) (sent : Sent) (result : Result (List ℕ) Memory) (new : World) → Steps w (data_step w sent.bytes sent.room) result new → new.files.hands ≡ w.files.hands
served_hands w sent (Ok bytes) new e = sym (ap (λ (t : Step). t.0.files.hands) e) ∙ step_hands w sent.bytes sent.room
served_hands w sent (Err m) new e = ap (λ (x : World). x.files.hands) e

pub served_count : (w : World) (sent : Sent) (result : Result (List ℕ) Memory) (new : World) → Steps w (data_step w sent.bytes sent.room) result new → length new.files.files ≡ length w.files.files
served_count w sent (Ok bytes) new e = sym (ap (λ (t : Step). length t.0.files.files) e) ∙ step_count w sent.bytes sent.room
served_count w sent (Err m) new e = ap (λ (x : World). length x.files.files) e

-- ---- the turn

same_number : (o : Option ℕ) (m n : ℕ) → o ≡ Some m → o ≡ Some n → m ≡ n
same_number o m n e h = cc

-- the boards serve the request whose file was entered
pub entered_serves : (s : State) (files : BoardView) (map : MapView) (file : ℕ) (more : List Entry) (readable : List ℕ) → CanShare s (boards files map) → named_file s readable ≡ Some file
    → CanStepData s (entered files file more) map readable
entered_serves s files map file more readable can named =
    let within : file < length files.files = omega (arith, named_within s readable file named, can.there) in
    record {
      there = rw (length-set files.files file (seen_file (file_at files file) more)) can.there;
      pages = can.pages;
      ready = λ f is. rw (same_number (named_file s readable) f file is named, file_at-with_file files file (seen_file (file_at files file) more) within) refl;
    }

pub entered_count : (files : BoardView) (file : ℕ) (more : List Entry) → length (entered files file more).files ≡ length files.files
entered_count files file more = length-set files.files file (seen_file (file_at files file) more)

own_turn : (s : State) (readable : List ℕ) → turn_for (shared_wire s) readable ≡ named_file s readable
unfolding turn_for
own_turn s readable = refl

with_named : (w : World) (turn : Option ℕ) (file : ℕ) (more : List Entry) → turn ≡ Some file → with_turn turn w more ≡ record w { files = entered w.files file more }
unfolding with_turn
with_named w None file more e = absurd cc
with_named w (Some f) file more e = let same : f ≡ file = cc in rw same refl

without_named : (w : World) (turn : Option ℕ) (file : ℕ) → turn ≡ Some file → without_turn turn w ≡ record w { files = left w.files file }
unfolding without_turn
without_named w None file e = absurd cc
without_named w (Some f) file e = let same : f ≡ file = cc in rw same refl

-- a request that was served in the turn of the file that it names
pub turn_served : (s : State) (files : BoardView) (map : MapView) (file : ℕ) (more : List Entry) (sent : Sent) (result : Result (List ℕ) Memory) (served : World)
    → named_file s sent.bytes ≡ Some file → AreOthers files more → Steps (world s (entered files file more) map) (data_step (world s (entered files file more) map) sent.bytes sent.room) result served
    → ServesInTurn (world s files map) sent result (record served { files = left served.files file })
turn_served s files map file more sent (Ok bytes) served named others step =
    let turn : turn_for (shared_wire s) sent.bytes ≡ Some file = own_turn s sent.bytes ∙ named in
    record {
      more = more;
      others = others;
      served = served;
      step = rw (with_named (world s files map) (turn_for (shared_wire s) sent.bytes) file more turn) step;
      left = sym (without_named served (turn_for (shared_wire s) sent.bytes) file turn);
    }
turn_served s files map file more sent (Err m) served named others step =
    let turn : turn_for (shared_wire s) sent.bytes ≡ Some file = own_turn s sent.bytes ∙ named in
    record {
      more = more;
      others = others;
      left = rw (with_named (world s files map) (turn_for (shared_wire s) sent.bytes) file more turn, step) (sym (without_named (world s (entered files file more) map) (turn_for (shared_wire s) sent.bytes) file turn));
    }

with_none : (w : World) (turn : Option ℕ) → turn ≡ None → with_turn turn w [] ≡ w
unfolding with_turn
with_none w None e = refl
with_none w (Some f) e = absurd cc

without_none : (w : World) (turn : Option ℕ) → turn ≡ None → without_turn turn w ≡ w
unfolding without_turn
without_none w None e = refl
without_none w (Some f) e = absurd cc

-- a request that names no file
pub alone_served : (s : State) (files : BoardView) (map : MapView) (sent : Sent) (result : Result (List ℕ) Memory) (served : World)
    → named_file s sent.bytes ≡ None → Steps (world s files map) (data_step (world s files map) sent.bytes sent.room) result served → ServesInTurn (world s files map) sent result served
alone_served s files map sent (Ok bytes) served named step =
    let turn : turn_for (shared_wire s) sent.bytes ≡ None = own_turn s sent.bytes ∙ named in
    record {
      more = [];
      others = record { others = All-nil (λ (e : Entry). e.guest ≢ files.guest); plain = λ _. refl };
      served = served;
      step = rw (with_none (world s files map) (turn_for (shared_wire s) sent.bytes) turn) step;
      left = sym (without_none served (turn_for (shared_wire s) sent.bytes) turn);
    }
alone_served s files map sent (Err m) served named step =
    let turn : turn_for (shared_wire s) sent.bytes ≡ None = own_turn s sent.bytes ∙ named in
    record {
      more = [];
      others = record { others = All-nil (λ (e : Entry). e.guest ≢ files.guest); plain = λ _. refl };
      left = rw (with_none (world s files map) (turn_for (shared_wire s) sent.bytes) turn, without_none (world s files map) (turn_for (shared_wire s) sent.bytes) turn) step;
    }

-- its answer has room
pub served_fits : (old : World) (sent : Sent) (result : Result (List ℕ) Memory) (new : World) → ServesInTurn old sent result new → IfOk result (λ b. length b ≤ sent.room)
served_fits old sent (Ok bytes) new c =
    subst (λ (b : List ℕ). length b ≤ sent.room) (ap (λ (t : Step). t.1) c.step) (data_step_fits (with_turn (turn_for (shared_wire old.state) sent.bytes) old c.more) sent.bytes sent.room)
served_fits old sent (Err m) new c = tt

-- ---- through the queue

-- A queue and its device are what an honest wire to a daemon that stays is.
pub CarriesInTurn-Honest : (old : Host) (sent : Sent) (result : Result (List ℕ) WireError) (new : Host) → CarriesInTurn old sent result new → Honest (shared_wire old.world.state) old.world sent result new.world
CarriesInTurn-Honest old sent (Ok bytes) new h = h.served
CarriesInTurn-Honest old sent (Err errors.Memory) new (inl h) = inl (ap (λ (x : Host). x.world) h.same)
CarriesInTurn-Honest old sent (Err errors.Memory) new (inr (inl h)) = inl h.world
CarriesInTurn-Honest old sent (Err errors.Memory) new (inr (inr (inl h))) = inr (inl h.seen)
CarriesInTurn-Honest old sent (Err errors.Memory) new (inr (inr (inr (bytes, h)))) = inr (inr (bytes, h.served))
CarriesInTurn-Honest old sent (Err errors.Fault) new h = absurd h

-- ---- over an honest wire to a daemon that stays as it is

seen_state : (turn : Option ℕ) (old : World) (more : List Entry) → (without_turn turn (with_turn turn old more)).state ≡ old.state
unfolding with_turn without_turn
seen_state None old more = refl
seen_state (Some file) old more = refl

-- the daemon stays as it is
pub honest_state : (w : WireView) (old : World) (sent : Sent) (result : Result (List ℕ) WireError) (new : World) → w.stays ≡ true → Honest w old sent result new → new.state ≡ old.state
honest_state w old sent (Ok bytes) new stays c = carried_state w old sent bytes new stays c
honest_state w old sent (Err errors.Memory) new stays (inl same) = ap (λ (x : World). x.state) same
honest_state w old sent (Err errors.Memory) new stays (inr (inl seen)) = ap (λ (x : World). x.state) seen.left ∙ seen_state (turn_for w sent.bytes) old seen.more
honest_state w old sent (Err errors.Memory) new stays (inr (inr (bytes, c))) = carried_state w old sent bytes new stays c
honest_state w old sent (Err errors.Fault) new stays h = absurd h

-- .. also where a call was made over the wire
pub answer_state : {S V : Type 0} (wire : S → WireView) (gives : S → Boards → Sent → Result (List ℕ) WireError → S → Boards → Type 0) (says : V → Reply → Type 0) (before : S) (old : Boards) (m : Message) (result : Result V WireRefusal) (after : S) (new : Boards)
    → Answers wire gives says before old m result after new → (wire before).honest ≡ true → (wire before).stays ≡ true → (wire after).state ≡ (wire before).state
answer_state wire gives says before old m (Ok v) after new (bytes, came, judged) honest stays = honest_state (wire before) (world_at (wire before) old) (sent m) (Ok bytes) (world_at (wire after) new) stays (came.honest honest)
answer_state wire gives says before old m (Err (refusals.Errno number)) after new (bytes, came, judged) honest stays = honest_state (wire before) (world_at (wire before) old) (sent m) (Ok bytes) (world_at (wire after) new) stays (came.honest honest)
answer_state wire gives says before old m (Err (refusals.BadReply bad)) after new (not_honest, received) honest stays = absurd (true≢false (sym honest ∙ not_honest))
answer_state wire gives says before old m (Err refusals.WireFault) after new (not_honest, rose, came) honest stays = absurd (true≢false (sym honest ∙ not_honest))
answer_state wire gives says before old m (Err refusals.Memory) after new (inl unsent) honest stays = ap (λ x. (wire x).state) unsent.wire
answer_state wire gives says before old m (Err refusals.Memory) after new (inr (inl came)) honest stays = honest_state (wire before) (world_at (wire before) old) (sent m) (Err errors.Memory) (world_at (wire after) new) stays (came.honest honest)
answer_state wire gives says before old m (Err refusals.Memory) after new (inr (inr (bytes, came))) honest stays = honest_state (wire before) (world_at (wire before) old) (sent m) (Ok bytes) (world_at (wire after) new) stays (came.honest honest)

-- boards can be shared again over what boards keep
pub CanShare-kept : (s t : State) (old new : Boards) → t ≡ s → CanShare s old → KeepsBoards old new → CanShare t new
CanShare-kept s t old new same h k = record {
  there = rw (same, k.files.count) h.there;
  pages = k.map.count ∙ h.pages ∙ sym (ap (λ (x : State). x.pages) same);
  free = ap (λ x. x.turn) k.files.hands ∙ h.free;
}

-- .. after an answer over such a wire
pub CanShare-answer : {S V : Type 0} (wire : S → WireView) (gives : S → Boards → Sent → Result (List ℕ) WireError → S → Boards → Type 0) (says : V → Reply → Type 0) (before : S) (old : Boards) (m : Message) (result : Result V WireRefusal) (after : S) (new : Boards)
    → Answers wire gives says before old m result after new → (wire before).honest ≡ true → (wire before).stays ≡ true → KeepsBoards old new → CanShare (wire before).state old → CanShare (wire after).state new
CanShare-answer wire gives says before old m result after new answers honest stays kept h = CanShare-kept (wire before).state (wire after).state old new (answer_state wire gives says before old m result after new answers honest stays) h kept
