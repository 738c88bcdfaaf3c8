-- What an honest wire makes of a request that succeeds without a value, and that names no file.
use Rattle.std.proofs.Common.{◌≡◌, ◌∙◌, ap, sym, refl, arith, ℕ, ◌<◌, ◌≤◌, ◌^◌, Bool, true, false, true≢false, nat_lt, List, length, Option, Some, None, Result, Ok, Err, inl, inr}
use Rattle.std.specs.Prelude.{◌⊎◌, ◌||◌, ℤ}
use Rattle.std.proofs.lemmas.Bool.{eq-eqb, le-ltb}
use Rattle.fuse_wire.specs.Layout.{FitsParts}
use Rattle.fuse_wire.specs.Records.{in_header}
use Rattle.fuse_wire.specs.declared.records.InHeader.{InHeader}
use Rattle.fuse_wire.proofs.Laws.{spelled_fits}
use Rattle.plain_file.specs.declared.operations.Entry.{Entry}
use Rattle.fuse_codec.specs.Grammar.{kind_of, asked, clean_message, header_of, Spells}
use Rattle.fuse_codec.specs.Opcodes.{reply_form}
use Rattle.fuse_codec.specs.Reading.{message_of}
use Rattle.fuse_codec.specs.ReplyReading.{reply_of}
use Rattle.fuse_codec.specs.Replies.{reply_parts, clean_reply}
use Rattle.fuse_codec.specs.declared.errors.BadRequest.{BadRequest}
use Rattle.fuse_codec.specs.declared.messages.Message.{Message}
use Rattle.fuse_codec.specs.declared.replies.Reply.{Reply}
use Rattle.fuse_codec.specs.declared.replies.Reply.TheVariants as replies
use Rattle.fuse_codec.proofs.CleanReading.{length-clean_reply}
use Rattle.fuse_codec.proofs.RequestLaws.{message_again}
use Rattle.fuse_device.specs.State.{State, World}
use Rattle.fuse_device.specs.Checks.{Outcome}
use Rattle.fuse_device.specs.DataSteps.{is_data, is_on_file, data_judged_message, data_step, file_in, named_file}
use Rattle.fuse_device.specs.OpenFiles.{Succeeds}
use Rattle.fuse_device.specs.Requests.{answered, is_init, is_forget, served}
use Rattle.fuse_device.specs.Steps.{Step, wanted_room, reply_to, judged_message, replied, header_at, is_forget_number}
use Rattle.fuse_device.proofs.OpenHandles.{header_at-spelled, length-spelled, forget_number, least_room, device_step-succeeds}
use Rattle.fuse_device.proofs.Receiving.{clean_reply_again}
use Rattle.guest_wire.specs.Wires.{WireView, Boards, Sent, world_at, turn_for, with_turn, without_turn, step_of, IsCarried, Honest}
use Rattle.guest_wire.specs.Requests.{sent}
use Rattle.guest_wire.specs.Answers.{Answers, heard, heard_as, numbered}
use Rattle.guest_wire.specs.declared.wires.WireError.{WireError}
use Rattle.guest_wire.specs.declared.wires.WireError.TheVariants as errors
use Rattle.guest_wire.specs.declared.wires.WireRefusal.{WireRefusal}
use Rattle.guest_wire.specs.declared.wires.WireRefusal.TheVariants as refusals
use Rattle.guest_dax.specs.Causes.{SaysDone}

-- each daemon carries the request out, and it names no file
pub record IsOfWindow (m : Message) : Type 0 where
  pub taken_by : is_data m.body ≡ true
  pub off_files : is_on_file m.body ≡ false

-- ---- the step of either daemon

data_step-answered : (w : World) (m : Message) (readable : List ℕ) (room : ℕ) → Spells m readable → is_data m.body ≡ true → is_forget m.body ≡ false → (w.state.started || is_init m.body) ≡ true → wanted_room m.body ≤ room
    → data_step w readable room ≡ replied m.head.unique (answered w m.head.nodeid m.body)
unfolding data_step data_judged_message judged_message served
data_step-answered w m readable room s taken reply may fits =
    let long : nat_lt (length readable) 40 ≡ false = le-ltb _ _ (length-spelled m readable s) in
    let head = header_at-spelled m readable s in
    let forget : is_forget_number (header_at readable).opcode ≡ false = ap (λ (h : InHeader). is_forget_number h.opcode) head ∙ forget_number m.body ∙ reply in
    let some : nat_lt room 16 ≡ false = le-ltb _ _ (omega (arith, fits, least_room (reply_form (kind_of m.body)) (asked m.body))) in
    let enough : nat_lt room (wanted_room m.body) ≡ false = le-ltb _ _ fits in
    let unique : (header_at readable).unique ≡ m.head.unique = ap (λ (h : InHeader). h.unique) head in
    rw (long, forget, some, message_again m readable s, taken, may, enough, unique) refl

data_step-succeeds : (w : World) (m : Message) (reply : Reply) (new : World) (readable : List ℕ) (room : ℕ) → Spells m readable → is_data m.body ≡ true → Succeeds w m.head.nodeid m.body reply new → wanted_room m.body ≤ room
    → data_step w readable room ≡ (new, clean_reply m.head.unique reply)
unfolding reply_to
data_step-succeeds w m reply new readable room s taken h fits =
    data_step-answered w m readable room s taken h.has_reply h.may_ask fits ∙ ap (λ (o : Outcome). replied m.head.unique o) h.gives

step-succeeds : (stays : Bool) (w : World) (m : Message) (reply : Reply) (new : World) → Spells m (clean_message m) → is_data m.body ≡ true → Succeeds w m.head.nodeid m.body reply new → step_of stays w (sent m) ≡ (new, clean_reply m.head.unique reply)
step-succeeds true w m reply new s taken h = data_step-succeeds w m reply new (clean_message m) (wanted_room m.body) s taken h (omega arith)
step-succeeds false w m reply new s taken h = device_step-succeeds w m reply new (clean_message m) (wanted_room m.body) s h (omega arith)

-- ---- no turn is taken for it

named_in : (s : State) (m : Message) (d : Result Message BadRequest) → d ≡ Ok m → is_on_file m.body ≡ false → file_in s d ≡ None
named_in s m d e off = rw (e, off) refl

turn_by : (stays : Bool) (s : State) (readable : List ℕ) → named_file s readable ≡ None → (w : WireView) → w.stays ≡ stays → w.state ≡ s → turn_for w readable ≡ None
unfolding turn_for
turn_by true s readable none w stays state = rw (stays, state) none
turn_by false s readable none w stays state = rw stays refl

no_turn : (w : WireView) (m : Message) → Spells m (clean_message m) → is_on_file m.body ≡ false → turn_for w (clean_message m) ≡ None
unfolding named_file
no_turn w m s off = turn_by w.stays w.state (clean_message m) (named_in w.state m (message_of (clean_message m)) (message_again m (clean_message m) s) off) w refl refl

-- the step without a turn
pub record IsStepOf (stays : Bool) (old : World) (s : Sent) (bytes : List ℕ) (new : World) : Type 0 where
  pub step : step_of stays old s ≡ (new, bytes)

without : (stays : Bool) (turn : Option ℕ) (old : World) (s : Sent) (more : List Entry) (served : World) (bytes : List ℕ) (new : World) → turn ≡ None
    → step_of stays (with_turn turn old more) s ≡ (served, bytes) → new ≡ without_turn turn served → IsStepOf stays old s bytes new
unfolding with_turn without_turn
without stays (Some file) old s more served bytes new none step left = absurd cc
without stays None old s more served bytes new none step left = record { step = rw left step }

seen_without : (turn : Option ℕ) (old : World) (more : List Entry) (new : World) → turn ≡ None → new ≡ without_turn turn (with_turn turn old more) → new ≡ old
unfolding with_turn without_turn
seen_without None old more new none left = left
seen_without (Some file) old more new none left = absurd cc

-- ---- what an honest wire answers

-- what is left, and the bytes that came back
pub record Carried (m : Message) (bytes : List ℕ) (new wanted : World) : Type 0 where
  pub left : new ≡ wanted
  pub bytes_are : bytes ≡ clean_reply m.head.unique replies.Done

carried : (w : WireView) (old : World) (m : Message) (bytes : List ℕ) (new wanted : World) → Spells m (clean_message m) → IsOfWindow m → Succeeds old m.head.nodeid m.body replies.Done wanted → IsCarried w old (sent m) bytes new → Carried m bytes new wanted
carried w old m bytes new wanted s is h c =
    let k = without w.stays (turn_for w (clean_message m)) old (sent m) c.more c.served bytes new (no_turn w m s is.off_files) c.step c.left in
    let does : (new, bytes) ≡ (wanted, clean_reply m.head.unique replies.Done) = sym k.step ∙ step-succeeds w.stays old m replies.Done wanted s is.taken_by h in
    record { left = ap (λ (t : Step). t.0) does; bytes_are = ap (λ (t : Step). t.1) does }

unique_fits : (m : Message) (bytes : List ℕ) → Spells m bytes → m.head.unique < 2 ^ 64
unfolding FitsParts in_header
unique_fits m bytes s = (spelled_fits (in_header (header_of (length bytes) m)) s.header s.header_spelled).1.1.0

done_len : (unique : ℕ) → length (clean_reply unique replies.Done) ≤ 16
unfolding reply_parts
done_len unique = omega (arith, length-clean_reply unique replies.Done)

heard_done : (w : World) (m : Message) (bytes : List ℕ) (wanted : World) → Spells m (clean_message m) → Succeeds w m.head.nodeid m.body replies.Done wanted → bytes ≡ clean_reply m.head.unique replies.Done → heard m bytes ≡ Some replies.Done
unfolding heard_as numbered
heard_done w m bytes wanted s h are =
    let within : length bytes ≤ wanted_room m.body = omega (arith, ap (λ (b : List ℕ). length b) are, done_len m.head.unique, least_room (reply_form (kind_of m.body)) (asked m.body)) in
    let read : reply_of (reply_form (kind_of m.body)) bytes ≡ Ok (m.head.unique, replies.Done) = ap (reply_of (reply_form (kind_of m.body))) are ∙ clean_reply_again m.body m.head.unique w m.head.nodeid replies.Done wanted h (unique_fits m (clean_message m) s) in
    rw (le-ltb (wanted_room m.body) (length bytes) within, read, eq-eqb m.head.unique m.head.unique refl) refl

no_error : (number : ℤ) (o : Option Reply) → o ≡ Some replies.Done → o ≡ Some (replies.Error number) → ⊥
no_error number o e h = cc

-- The request succeeded, and this is left; or memory was wanted, and it was carried out or not.
abbrev pub Succeeded : Result (Unit {0}) WireRefusal → World → World → World → Type 0
Succeeded (Ok u) old new wanted = new ≡ wanted
Succeeded (Err refusals.Memory) old new wanted = (new ≡ old) ⊎ (new ≡ wanted)
Succeeded (Err e) old new wanted = ⊥

memory_left : (w : WireView) (old : World) (m : Message) (new wanted : World) → Spells m (clean_message m) → IsOfWindow m → Succeeds old m.head.nodeid m.body replies.Done wanted → Honest w old (sent m) (Err errors.Memory) new → (new ≡ old) ⊎ (new ≡ wanted)
memory_left w old m new wanted s is h (inl same) = inl same
memory_left w old m new wanted s is h (inr (inl seen)) = inl (seen_without (turn_for w (clean_message m)) old seen.more new (no_turn w m s is.off_files) seen.left)
memory_left w old m new wanted s is h (inr (inr (bytes, c))) = inr (carried w old m bytes new wanted s is h c).left

pub succeeded : {S : Type 0} (wire : S → WireView) (gives : S → Boards → Sent → Result (List ℕ) WireError → S → Boards → Type 0) (before : S) (old : Boards) (m : Message) (wanted : World) (result : Result (Unit {0}) WireRefusal) (after : S) (new : Boards)
    → Answers wire gives SaysDone before old m result after new → (wire before).honest ≡ true → IsOfWindow m → Succeeds (world_at (wire before) old) m.head.nodeid m.body replies.Done wanted → Succeeded result (world_at (wire before) old) (world_at (wire after) new) wanted
succeeded wire gives before old m wanted (Ok u) after new (bytes, came, judged) honest is h =
    (carried (wire before) (world_at (wire before) old) m bytes (world_at (wire after) new) wanted came.spelled is h (came.honest honest)).left
succeeded wire gives before old m wanted (Err (refusals.Errno number)) after new (bytes, came, judged) honest is h =
    let k = carried (wire before) (world_at (wire before) old) m bytes (world_at (wire after) new) wanted came.spelled is h (came.honest honest) in
    no_error number (heard m bytes) (heard_done (world_at (wire before) old) m bytes wanted came.spelled h k.bytes_are) judged
succeeded wire gives before old m wanted (Err (refusals.BadReply bad)) after new (not_honest, received) honest is h = absurd (true≢false (sym honest ∙ not_honest))
succeeded wire gives before old m wanted (Err refusals.WireFault) after new (not_honest, rose, came) honest is h = absurd (true≢false (sym honest ∙ not_honest))
succeeded wire gives before old m wanted (Err refusals.Memory) after new (inl unsent) honest is h = inl (rw (unsent.wire, unsent.boards) refl)
succeeded wire gives before old m wanted (Err refusals.Memory) after new (inr (inl came)) honest is h = memory_left (wire before) (world_at (wire before) old) m (world_at (wire after) new) wanted came.spelled is h (came.honest honest)
succeeded wire gives before old m wanted (Err refusals.Memory) after new (inr (inr (bytes, came))) honest is h =
    inr (carried (wire before) (world_at (wire before) old) m bytes (world_at (wire after) new) wanted came.spelled is h (came.honest honest)).left
