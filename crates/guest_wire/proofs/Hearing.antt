-- What an honest wire brings back is a reply to the request; and the reply, where the request succeeds.
use Rattle.std.proofs.Common.{◌≡◌, ◌∙◌, sym, refl, ap, subst, arith, ℕ, ◌≤◌, ◌<◌, ◌^◌, Bool, true, false, true≢false, List, length, Option, Some, None, Result, Ok, Err, inr}
use Rattle.std.specs.Prelude.{IsSome}
use Rattle.std.proofs.lemmas.Bool.{eq-eqb, le-ltb}
use Rattle.fuse_wire.specs.Layout.{FitsParts}
use Rattle.fuse_wire.specs.Records.{in_header}
use Rattle.fuse_wire.proofs.Laws.{spelled_fits}
use Rattle.fuse_codec.specs.Grammar.{kind_of, clean_message, header_of, Spells}
use Rattle.fuse_codec.specs.Opcodes.{reply_form}
use Rattle.fuse_codec.specs.ReplyReading.{reply_of}
use Rattle.fuse_codec.specs.Replies.{answered, form_of, clean_reply}
use Rattle.fuse_codec.specs.declared.messages.Message.{Message}
use Rattle.fuse_codec.specs.declared.messages.Request.{Request}
use Rattle.fuse_codec.specs.declared.messages.Request.TheVariants as asks
use Rattle.fuse_codec.specs.declared.opcodes.ReplyForm.{ReplyForm}
use Rattle.fuse_codec.specs.declared.replies.Reply.{Reply}
use Rattle.fuse_codec.specs.declared.replies.Reply.TheVariants as replies
use Rattle.fuse_codec.proofs.CleanReading.{ReadsTo}
use Rattle.fuse_device.specs.State.{World}
use Rattle.fuse_device.specs.OpenFiles.{Succeeds}
use Rattle.fuse_device.specs.Requests.{is_forget}
use Rattle.fuse_device.specs.Steps.{Step, wanted_room, device_step}
use Rattle.fuse_device.proofs.Answering.{device_step_fits, device_step_answers, data_step_fits, data_step_answers}
use Rattle.fuse_device.proofs.OpenHandles.{device_step-succeeds}
use Rattle.fuse_device.proofs.Receiving.{clean_reply_again}
use Rattle.guest_wire.specs.Wires.{WireView, Boards, Sent, world_at, turn_for, with_turn, step_of, IsCarried, IsStep}
use Rattle.guest_wire.specs.Requests.{sent}
use Rattle.guest_wire.specs.Answers.{Answers, JudgesOrNot, IsSent, SaysItself, Succeeded, heard, heard_as, numbered}
use Rattle.guest_wire.specs.declared.wires.WireError.{WireError}
use Rattle.guest_wire.specs.declared.wires.WireError.TheVariants as errors
use Rattle.guest_wire.proofs.Carrying.{carried_whole}
use Rattle.plain_file.specs.Counts.{Rose}
use Rattle.guest_wire.specs.declared.wires.WireRefusal.{WireRefusal}
use Rattle.guest_wire.specs.declared.wires.WireRefusal.TheVariants as refusals

-- ---- a reply to the request

-- a request that has a reply is no forget
has_reply : (q : Request) → IsSome (answered (reply_form (kind_of q))) → is_forget q ≡ false
unfolding answered reply_form kind_of is_forget
has_reply (asks.Lookup name) h = refl
has_reply (asks.Forget n) h = absurd cc
has_reply (asks.Getattr r) h = refl
has_reply (asks.Setattr r) h = refl
has_reply (asks.Unlink name) h = refl
has_reply (asks.OpenFile r) h = refl
has_reply (asks.Read r) h = refl
has_reply (asks.Write r bytes) h = refl
has_reply (asks.Release r) h = refl
has_reply (asks.Fsync r) h = refl
has_reply (asks.Flush r) h = refl
has_reply (asks.Init r) h = refl
has_reply (asks.OpenDir r) h = refl
has_reply (asks.ReadDir r) h = refl
has_reply (asks.ReleaseDir r) h = refl
has_reply (asks.Create r name) h = refl
has_reply asks.Destroy h = refl
has_reply (asks.BatchForget ones) h = absurd cc
has_reply (asks.Fallocate r) h = refl
has_reply (asks.Setup r) h = refl
has_reply (asks.Remove ones) h = refl

-- the number of a message whose bytes spell it
unique_fits : (m : Message) (bytes : List ℕ) → Spells m bytes → m.head.unique < 2 ^ 64
unfolding FitsParts in_header
unique_fits m bytes s = (spelled_fits (in_header (header_of (length bytes) m)) s.header s.header_spelled).1.1.0

-- bytes within the room that are read as a reply with the number
heard_by : (m : Message) (bytes : List ℕ) (reply : Reply) → length bytes ≤ wanted_room m.body → reply_of (reply_form (kind_of m.body)) bytes ≡ Ok (m.head.unique, reply) → heard m bytes ≡ Some reply
unfolding heard_as numbered
heard_by m bytes reply within read = rw (le-ltb (wanted_room m.body) (length bytes) within, read, eq-eqb m.head.unique m.head.unique refl) refl

-- an answer of either step is within the room
step_fits : (stays : Bool) (w : World) (s : Sent) → length (step_of stays w s).1 ≤ s.room
step_fits true w s = data_step_fits w s.bytes s.room
step_fits false w s = device_step_fits w s.bytes s.room

-- and is read as a reply
step_answers : (stays : Bool) (w : World) (m : Message) → Spells m (clean_message m) → is_forget m.body ≡ false → ReadsTo (reply_form (kind_of m.body)) m.head.unique (step_of stays w (sent m)).1
step_answers true w m s answers = data_step_answers w m (clean_message m) (wanted_room m.body) s answers (omega arith) (unique_fits m (clean_message m) s)
step_answers false w m s answers = device_step_answers w m (clean_message m) (wanted_room m.body) s answers (omega arith) (unique_fits m (clean_message m) s)

carried_fits : (w : WireView) (old new : World) (s : Sent) (bytes : List ℕ) → IsCarried w old s bytes new → length bytes ≤ s.room
carried_fits w old new s bytes c = subst (λ (b : List ℕ). length b ≤ s.room) (ap (λ (t : Step). t.1) c.step) (step_fits w.stays (with_turn (turn_for w s.bytes) old c.more) s)

-- what an honest wire brings back
heard_honest : (w : WireView) (old new : World) (m : Message) (bytes : List ℕ) → Spells m (clean_message m) → is_forget m.body ≡ false → IsCarried w old (sent m) bytes new → (reply : Reply) × (heard m bytes ≡ Some reply)
heard_honest w old new m bytes s answers c =
    let read : ReadsTo (reply_form (kind_of m.body)) m.head.unique bytes = subst (λ (b : List ℕ). ReadsTo (reply_form (kind_of m.body)) m.head.unique b) (ap (λ (t : Step). t.1) c.step) (step_answers w.stays (with_turn (turn_for w (sent m).bytes) old c.more) m s answers) in
    (read.0, heard_by m bytes read.0 (carried_fits w old new (sent m) bytes c) read.1)

none_is_some : (reply : Reply) (o : Option Reply) → o ≡ None → o ≡ Some reply → ⊥
none_is_some reply o e h = cc

-- so it isn't honest where they are none
not_honest : (w : WireView) (honest : Bool) (old new : World) (m : Message) (bytes : List ℕ) → Spells m (clean_message m) → is_forget m.body ≡ false → heard m bytes ≡ None → (honest ≡ true → IsCarried w old (sent m) bytes new) → honest ≡ false
not_honest w false old new m bytes s answers none carried = refl
not_honest w true old new m bytes s answers none carried =
    let h = heard_honest w old new m bytes s answers (carried refl) in
    absurd (none_is_some h.0 (heard m bytes) none h.1)

-- what was heard is what is answered
pub answers_heard : {S : Type 0} (wire : S → WireView) (gives : S → Boards → Sent → Result (List ℕ) WireError → S → Boards → Type 0) (before : S) (old : Boards) (m : Message) (bytes : List ℕ) (result : Result Reply WireRefusal) (after : S) (new : Boards)
    → IsSome (answered (reply_form (kind_of m.body))) → IsSent wire gives before old m (Ok bytes) after new → JudgesOrNot (heard m bytes) bytes result → Answers wire gives SaysItself before old m result after new
answers_heard wire gives before old m bytes (Ok reply) after new some came judged = (bytes, came, judged)
answers_heard wire gives before old m bytes (Err (refusals.Errno number)) after new some came judged = (bytes, came, judged)
answers_heard wire gives before old m bytes (Err (refusals.BadReply bad)) after new some came judged =
    (not_honest (wire before) (wire before).honest (world_at (wire before) old) (world_at (wire after) new) m bytes came.spelled (has_reply m.body some) judged.0 came.honest, (bytes, came, judged))
answers_heard wire gives before old m bytes (Err refusals.WireFault) after new some came judged = absurd judged
answers_heard wire gives before old m bytes (Err refusals.Memory) after new some came judged = inr (inr (bytes, came))

no_fault : (honest : Bool) → (honest ≡ true → ⊥) → honest ≡ false
no_fault false h = refl
no_fault true h = absurd (h refl)

-- a fault of the wire is what is answered
pub answers_fault : {S : Type 0} (wire : S → WireView) (gives : S → Boards → Sent → Result (List ℕ) WireError → S → Boards → Type 0) (before : S) (old : Boards) (m : Message) (after : S) (new : Boards)
    → IsSent wire gives before old m (Err errors.Fault) after new → Rose (wire before).faults (wire after).faults → Answers wire gives SaysItself before old m (Err refusals.WireFault) after new
answers_fault wire gives before old m after new came rose = (no_fault (wire before).honest came.honest, rose, came)

-- ---- a request that succeeds

record Heard (m : Message) (bytes : List ℕ) (reply : Reply) (new wanted : World) : Type 0 where
  pub is : heard m bytes ≡ Some reply
  pub left : new ≡ wanted

heard_success : (w new : World) (m : Message) (bytes : List ℕ) (reply : Reply) (wanted : World) → Spells m (clean_message m) → Succeeds w m.head.nodeid m.body reply wanted → IsStep w (sent m) bytes new → Heard m bytes reply new wanted
heard_success w new m bytes reply wanted s h step =
    let same : wanted_room m.body ≤ wanted_room m.body = omega arith in
    let does = device_step-succeeds w m reply wanted (clean_message m) (wanted_room m.body) s h same in
    let here : (device_step w (clean_message m) (wanted_room m.body)).1 ≡ bytes = ap (λ (t : Step). t.1) step in
    let e : bytes ≡ clean_reply m.head.unique reply = sym here ∙ ap (λ (t : Step). t.1) does in
    let within : length bytes ≤ wanted_room m.body = subst (λ (b : List ℕ). length b ≤ wanted_room m.body) here (device_step_fits w (clean_message m) (wanted_room m.body)) in
    let read : reply_of (reply_form (kind_of m.body)) bytes ≡ Ok (m.head.unique, reply) = ap (reply_of (reply_form (kind_of m.body))) e ∙ clean_reply_again m.body m.head.unique w m.head.nodeid reply wanted h (unique_fits m (clean_message m) s) in
    record { is = heard_by m bytes reply within read; left = sym (ap (λ (t : Step). t.0) step) ∙ ap (λ (t : Step). t.0) does }

some_is : (r s : Reply) (o : Option Reply) → o ≡ Some r → o ≡ Some s → r ≡ s
some_is r s o e h = cc

nothing_is_some : (o : Option ReplyForm) → o ≡ None → IsSome o → ⊥
nothing_is_some o e h = cc

no_error : (reply : Reply) (o : Option Reply) (r : Reply) → IsSome (form_of reply) → form_of r ≡ None → o ≡ Some reply → o ≡ Some r → ⊥
no_error reply o r some none e h =
    let same : form_of reply ≡ None = ap form_of (some_is reply r o e h) ∙ none in
    nothing_is_some (form_of reply) same some

-- over an honest wire to the whole daemon such a request is answered by its reply, and leaves what it is to leave
pub succeeded : {S V : Type 0} (wire : S → WireView) (gives : S → Boards → Sent → Result (List ℕ) WireError → S → Boards → Type 0) (says : V → Reply → Type 0) (before : S) (old : Boards) (m : Message) (reply : Reply) (wanted : World) (result : Result V WireRefusal) (after : S) (new : Boards)
    → Answers wire gives says before old m result after new → (wire before).honest ≡ true → (wire before).stays ≡ false → IsSome (form_of reply) → Succeeds (world_at (wire before) old) m.head.nodeid m.body reply wanted → Succeeded says reply wanted result (world_at (wire after) new)
unfolding form_of
succeeded {V = V} wire gives says before old m reply wanted (Ok v) after new (bytes, came, (r, is, said)) honest whole success h =
    let k = heard_success (world_at (wire before) old) (world_at (wire after) new) m bytes reply wanted came.spelled h (carried_whole (wire before) (world_at (wire before) old) (sent m) bytes (world_at (wire after) new) whole (came.honest honest)) in
    (subst (says v) (some_is r reply (heard m bytes) is k.is) said, k.left)
succeeded wire gives says before old m reply wanted (Err (refusals.Errno number)) after new (bytes, came, is) honest whole success h =
    let k = heard_success (world_at (wire before) old) (world_at (wire after) new) m bytes reply wanted came.spelled h (carried_whole (wire before) (world_at (wire before) old) (sent m) bytes (world_at (wire after) new) whole (came.honest honest)) in
    absurd (no_error reply (heard m bytes) (replies.Error number) success refl k.is is)
succeeded wire gives says before old m reply wanted (Err (refusals.BadReply bad)) after new (not_honest, received) honest whole success h = absurd (true≢false (sym honest ∙ not_honest))
succeeded wire gives says before old m reply wanted (Err refusals.WireFault) after new (not_honest, rose, came) honest whole success h = absurd (true≢false (sym honest ∙ not_honest))
succeeded wire gives says before old m reply wanted (Err refusals.Memory) after new none honest whole success h = tt
