-- A request about a file over an honest wire: the operation is applied to the file, and the reply is brought back.
use Rattle.std.proofs.Common.{◌≡◌, ◌∙◌, ap, sym, refl, subst, arith, ℕ, ◌+◌, ◌-◌, ◌<◌, ◌≤◌, ◌^◌, Bool, true, false, List, length, Option, Some, None, Ok}
use Rattle.std.specs.Prelude.{◌||◌, IsSome, if◌then◌else◌}
use Rattle.std.proofs.lemmas.Bool.{eq-eqb, le-ltb}
use Rattle.fuse_wire.specs.Layout.{FitsParts}
use Rattle.fuse_wire.specs.Records.{in_header}
use Rattle.fuse_wire.proofs.Laws.{spelled_fits}
use Rattle.plain_file.specs.declared.operations.Entry.{Entry}
use Rattle.plain_file.specs.declared.operations.Op.{Op}
use Rattle.plain_file.specs.declared.operations.Op.TheVariants as ops
use Rattle.plain_file.specs.File.{max_file}
use Rattle.plain_file.specs.Board.{BoardView, file_at, size_of, applied, file_answer}
use Rattle.plain_file.specs.Turns.{AreOthers, entered, left}
use Rattle.fuse_codec.specs.Grammar.{kind_of, clean_message, header_of, Spells}
use Rattle.fuse_codec.specs.Opcodes.{reply_form}
use Rattle.fuse_codec.specs.ReplyReading.{reply_of}
use Rattle.fuse_codec.specs.Replies.{form_of, reply_parts, is_reply, clean_reply, HasForm}
use Rattle.fuse_codec.specs.declared.messages.Message.{Message}
use Rattle.fuse_codec.specs.declared.replies.Reply.{Reply}
use Rattle.fuse_codec.proofs.RequestLaws.{message_again}
use Rattle.fuse_device.specs.State.{State, World}
use Rattle.fuse_device.specs.Checks.{Outcome, is_known}
use Rattle.fuse_device.specs.DataSteps.{is_data, is_on_file, file_in, named_file}
use Rattle.fuse_device.specs.OpenFiles.{Succeeds}
use Rattle.fuse_device.specs.Requests.{answered, is_init, is_forget}
use Rattle.fuse_device.specs.Steps.{Step, wanted_room, reply_to, replied, device_step}
use Rattle.fuse_device.proofs.Answering.{device_step_fits, data_step_fits}
use Rattle.fuse_device.proofs.DataLaws.{data_step-device_step, file_named}
use Rattle.fuse_device.proofs.OpenHandles.{device_step-answered}
use Rattle.fuse_device.proofs.Receiving.{clean_reply_again}
use Rattle.guest_wire.specs.Wires.{WireView, Sent, turn_for, with_turn, without_turn, step_of, IsCarried, IsSeen}
use Rattle.guest_wire.specs.Requests.{sent}
use Rattle.guest_wire.specs.Answers.{heard, heard_as, numbered}
use Rattle.guest_io.specs.Requests.{answer_in}

-- ---- the boards while the request is served, and afterwards

abbrev pub mid : Bool → BoardView → ℕ → List Entry → BoardView
mid true v file more = entered v file more
mid false v file more = v

abbrev pub back : Bool → BoardView → ℕ → BoardView
back true v file = left v file
back false v file = v

-- a reply goes over the wire
pub record GoesOver (m : Message) (reply : Reply) : Type 0 where
  pub good : is_reply reply ≡ true
  pub formed : HasForm (reply_form (kind_of m.body)) reply
  pub fits : FitsParts (reply_parts reply)

-- a request that applies an operation to a file, where the board has the bar on this file or none, and what it is replied
pub record IsOnFile (s : State) (bar : Option ℕ) (m : Message) (file : ℕ) (op : Op) (reply : World → Reply) : Type 0 where
  pub taken : is_data m.body ≡ true
  pub on : is_on_file m.body ≡ true
  pub has_reply : is_forget m.body ≡ false
  pub node : m.head.nodeid ≡ file + 2
  pub started : s.started ≡ true
  pub known : is_known s m.head.nodeid ≡ true
  pub gives : (w : World) → w.state ≡ s → w.files.hands.bar ≡ bar → answered w m.head.nodeid m.body ≡ (Ok (reply w), record w { files = applied w.files file op })
  pub over : (w : World) → m.head.nodeid < 2 ^ 64 → (op ≡ ops.Size → size_of (file_at w.files file) ≤ max_file) → GoesOver m (reply w)
  pub answers : (w : World) → answer_in (reply w) ≡ (file_answer (file_at w.files file) op).answer
  pub success : (w : World) → IsSome (form_of (reply w))

-- ---- the turn

turn_by : (stays : Bool) (w : WireView) (readable : List ℕ) (file : ℕ) → w.stays ≡ stays → named_file w.state readable ≡ Some file → turn_for w readable ≡ (if w.stays then Some file else None)
unfolding turn_for
turn_by true w readable file e named = rw (e, named) refl
turn_by false w readable file e named = rw e refl

named_by : (s : State) (m : Message) (file : ℕ) → Spells m (clean_message m) → is_on_file m.body ≡ true → m.head.nodeid ≡ file + 2 → is_known s m.head.nodeid ≡ true → named_file s (clean_message m) ≡ Some file
unfolding named_file
named_by s m file spelled on node known =
    let other : m.head.nodeid ≡ 1 → ⊥ = λ e. omega (arith, e, node) in
    let n : m.head.nodeid - 2 ≡ file = omega (arith, node) in
    ap (λ d. file_in s d) (message_again m (clean_message m) spelled) ∙ file_named s m on other known ∙ ap (λ k. Some k) n

turned : (stays : Bool) (w : World) (file : ℕ) (more : List Entry) → with_turn (if stays then Some file else None) w more ≡ record w { files = mid stays w.files file more }
unfolding with_turn
turned true w file more = refl
turned false w file more = refl

returned : (stays : Bool) (w : World) (file : ℕ) → without_turn (if stays then Some file else None) w ≡ record w { files = back stays w.files file }
unfolding without_turn
returned true w file = refl
returned false w file = refl

-- ---- the step

whole_step : (w : World) (m : Message) (reply : Reply) (new : World) → Spells m (clean_message m) → is_forget m.body ≡ false → w.state.started ≡ true → answered w m.head.nodeid m.body ≡ (Ok reply, new) → device_step w (clean_message m) (wanted_room m.body) ≡ (new, clean_reply m.head.unique reply)
unfolding reply_to
whole_step w m reply new s answers started gives =
    let may : (w.state.started || is_init m.body) ≡ true = rw started refl in
    device_step-answered w m (clean_message m) (wanted_room m.body) s answers may (omega arith) ∙ ap (λ (o : Outcome). replied m.head.unique o) gives

step_by : (stays : Bool) (w : World) (m : Message) (reply : Reply) (new : World) → Spells m (clean_message m) → is_data m.body ≡ true → is_forget m.body ≡ false → w.state.started ≡ true → answered w m.head.nodeid m.body ≡ (Ok reply, new) → step_of stays w (sent m) ≡ (new, clean_reply m.head.unique reply)
step_by true w m reply new s taken answers started gives = data_step-device_step w (clean_message m) (wanted_room m.body) m (message_again m (clean_message m) s) taken ∙ whole_step w m reply new s answers started gives
step_by false w m reply new s taken answers started gives = whole_step w m reply new s answers started gives

-- ---- what is carried out

-- entering a file leaves the bar as it is
barred-as : (stays : Bool) (v : BoardView) (file : ℕ) (more : List Entry) → (mid stays v file more).hands.bar ≡ v.hands.bar
barred-as true v file more = refl
barred-as false v file more = refl

-- the world in which it is served
abbrev pub served_in : Bool → World → ℕ → List Entry → World
served_in stays old file more = record old { files = mid stays old.files file more }

pub record Carries (w : WireView) (old : World) (m : Message) (file : ℕ) (op : Op) (reply : World → Reply) (bytes : List ℕ) (new : World) : Type 0 where
  pub more : List Entry
  pub others : AreOthers old.files more
  pub files : new.files ≡ back w.stays (applied (mid w.stays old.files file more) file op) file
  pub state : new.state ≡ old.state
  pub bytes_are : bytes ≡ clean_reply m.head.unique (reply (served_in w.stays old file more))
  pub within : length bytes ≤ wanted_room m.body

step_fits : (stays : Bool) (w : World) (s : Sent) → length (step_of stays w s).1 ≤ s.room
step_fits true w s = data_step_fits w s.bytes s.room
step_fits false w s = device_step_fits w s.bytes s.room

pub carries : (w : WireView) (old : World) (m : Message) (file : ℕ) (op : Op) (reply : World → Reply) (bytes : List ℕ) (new : World) → old.state ≡ w.state → Spells m (clean_message m) → IsOnFile w.state old.files.hands.bar m file op reply → IsCarried w old (sent m) bytes new → Carries w old m file op reply bytes new
carries w old m file op reply bytes new state s h c =
    let turn : turn_for w (clean_message m) ≡ (if w.stays then Some file else None) = turn_by w.stays w (clean_message m) file refl (named_by w.state m file s h.on h.node h.known) in
    let u : World = served_in w.stays old file c.more in
    let enters : with_turn (turn_for w (clean_message m)) old c.more ≡ u = ap (λ (t : Option ℕ). with_turn t old c.more) turn ∙ turned w.stays old file c.more in
    let step : step_of w.stays u (sent m) ≡ (c.served, bytes) = ap (λ (v : World). step_of w.stays v (sent m)) (sym enters) ∙ c.step in
    let does : (c.served, bytes) ≡ (record u { files = applied u.files file op }, clean_reply m.head.unique (reply u)) = sym step ∙ step_by w.stays u m (reply u) (record u { files = applied u.files file op }) s h.taken h.has_reply (ap (λ (d : State). d.started) state ∙ h.started) (h.gives u state (barred-as w.stays old.files file c.more)) in
    let left_by : new ≡ record c.served { files = back w.stays c.served.files file } = c.left ∙ ap (λ (t : Option ℕ). without_turn t c.served) turn ∙ returned w.stays c.served file in
    let after : c.served ≡ record u { files = applied u.files file op } = ap (λ (t : Step). t.0) does in
    record {
      more = c.more;
      others = c.others;
      files = ap (λ (v : World). v.files) left_by ∙ ap (λ (v : World). back w.stays v.files file) after;
      state = ap (λ (v : World). v.state) left_by ∙ ap (λ (v : World). v.state) after;
      bytes_are = ap (λ (t : Step). t.1) does;
      within = subst (λ (b : List ℕ). length b ≤ wanted_room m.body) (ap (λ (t : Step). t.1) step) (step_fits w.stays u (sent m));
    }

-- ---- what is heard

unique_fits : (m : Message) (bytes : List ℕ) → Spells m bytes → m.head.unique < 2 ^ 64
unfolding FitsParts in_header
unique_fits m bytes s = (spelled_fits (in_header (header_of (length bytes) m)) s.header s.header_spelled).1.1.0

node_fits : (m : Message) (bytes : List ℕ) → Spells m bytes → m.head.nodeid < 2 ^ 64
unfolding FitsParts in_header
node_fits m bytes s = (spelled_fits (in_header (header_of (length bytes) m)) s.header s.header_spelled).1.1.1.0

heard_by : (m : Message) (bytes : List ℕ) (reply : Reply) → length bytes ≤ wanted_room m.body → reply_of (reply_form (kind_of m.body)) bytes ≡ Ok (m.head.unique, reply) → heard m bytes ≡ Some reply
unfolding heard_as numbered
heard_by m bytes reply within read = rw (le-ltb (wanted_room m.body) (length bytes) within, read, eq-eqb m.head.unique m.head.unique refl) refl

pub hears : (w : WireView) (old : World) (m : Message) (file : ℕ) (op : Op) (reply : World → Reply) (bytes : List ℕ) (new : World) → old.state ≡ w.state → Spells m (clean_message m) → IsOnFile w.state old.files.hands.bar m file op reply → (c : Carries w old m file op reply bytes new)
    → (op ≡ ops.Size → size_of (file_at (mid w.stays old.files file c.more) file) ≤ max_file) → heard m bytes ≡ Some (reply (served_in w.stays old file c.more))
hears w old m file op reply bytes new state s h c small =
    let u : World = served_in w.stays old file c.more in
    let goes = h.over u (node_fits m (clean_message m) s) small in
    let succeeds : Succeeds u m.head.nodeid m.body (reply u) (record u { files = applied u.files file op }) = record { may_ask = rw (ap (λ (d : State). d.started) state ∙ h.started) refl; has_reply = h.has_reply; gives = h.gives u state (barred-as w.stays old.files file c.more); good = goes.good; formed = goes.formed; fits = goes.fits } in
    let read : reply_of (reply_form (kind_of m.body)) bytes ≡ Ok (m.head.unique, reply u) = ap (reply_of (reply_form (kind_of m.body))) c.bytes_are ∙ clean_reply_again m.body m.head.unique u m.head.nodeid (reply u) (record u { files = applied u.files file op }) succeeds (unique_fits m (clean_message m) s) in
    heard_by m bytes (reply u) c.within read

-- ---- want of memory

-- the request was seen and not carried out
pub record Sees (w : WireView) (old : World) (file : ℕ) (new : World) : Type 0 where
  pub more : List Entry
  pub others : AreOthers old.files more
  pub files : new.files ≡ back w.stays (mid w.stays old.files file more) file
  pub state : new.state ≡ old.state

pub sees : (w : WireView) (old : World) (m : Message) (file : ℕ) (op : Op) (reply : World → Reply) (new : World) → Spells m (clean_message m) → IsOnFile w.state old.files.hands.bar m file op reply → IsSeen w old (sent m) new → Sees w old file new
sees w old m file op reply new s h c =
    let turn : turn_for w (clean_message m) ≡ (if w.stays then Some file else None) = turn_by w.stays w (clean_message m) file refl (named_by w.state m file s h.on h.node h.known) in
    let u : World = served_in w.stays old file c.more in
    let enters : with_turn (turn_for w (clean_message m)) old c.more ≡ u = ap (λ (t : Option ℕ). with_turn t old c.more) turn ∙ turned w.stays old file c.more in
    let left_by : new ≡ record u { files = back w.stays u.files file } = c.left ∙ ap (λ (t : Option ℕ). without_turn t (with_turn (turn_for w (clean_message m)) old c.more)) turn ∙ returned w.stays (with_turn (turn_for w (clean_message m)) old c.more) file ∙ ap (λ (v : World). record v { files = back w.stays v.files file }) enters in
    record { more = c.more; others = c.others; files = ap (λ (v : World). v.files) left_by; state = ap (λ (v : World). v.state) left_by }
