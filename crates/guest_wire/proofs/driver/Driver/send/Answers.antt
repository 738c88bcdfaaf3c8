use Rattle.std.proofs.Common.{◌≡◌, ◌∙◌, subst, true, ℕ, List, Result, Ok}
use Rattle.fuse_codec.specs.Grammar.{Spells}
use Rattle.fuse_codec.specs.Opcodes.{reply_form}
use Rattle.fuse_codec.specs.Replies.{answered}
use Rattle.fuse_codec.specs.declared.messages.Message.{Message}
use Rattle.fuse_codec.specs.declared.opcodes.Opcode.{Opcode}
use Rattle.std.specs.Prelude.{IsSome}
use Rattle.guest_wire.specs.Wires.{WireView, Boards, Sent, boards, sending, world_at, Honest}
use Rattle.guest_wire.specs.Requests.{sent}
use Rattle.guest_wire.specs.Answers.{IsSpelled, JudgesOrNot, IsSent, heard, heard_as}
use Rattle.guest_wire.specs.declared.driver.Spelled.{Spelled}
use Rattle.guest_wire.specs.declared.wires.WireError.{WireError}
use Rattle.guest_wire.proofs.Hearing.{answers_heard}
use Rattle.guest_wire.proofs.driver.Driver.send.Goals as goal

-- what was submitted is the message's bytes and room
is_sent : {S : Type 0} (wire : S → WireView) (gives : S → Boards → Sent → Result (List ℕ) WireError → S → Boards → Type 0) (before : S) (old : Boards) (m : Message) (s : Spelled) (bytes : List ℕ) (came : Result (List ℕ) WireError) (after : S) (new : Boards)
    → IsSpelled m s → bytes ≡ s.bytes → gives before old (sending bytes s.room) came after new
    → ((wire before).honest ≡ true → Honest (wire before) (world_at (wire before) old) (sending bytes s.room) came (world_at (wire after) new)) → IsSent wire gives before old m came after new
is_sent wire gives before old m s bytes came after new is same given honest =
    let submitted : sending bytes s.room ≡ sent m = λ i. sending ((same ∙ is.clean) i) (is.room i) in
    record {
      spelled = subst (Spells m) is.clean is.spelled;
      given = subst (λ (x : Sent). gives before old x came after new) submitted given;
      honest = λ h. subst (λ (x : Sent). Honest (wire before) (world_at (wire before) old) x came (world_at (wire after) new)) submitted (honest h);
    }

heard_same : (m : Message) (s : Spelled) (bytes : List ℕ) → IsSpelled m s → heard_as s.unique s.opcode s.room bytes ≡ heard m bytes
heard_same m s bytes is = λ i. heard_as (is.number i) (is.opcode i) (is.room i) bytes

pub returns-in-Ok-clause-answer : goal.returns-in-Ok-clause-answer
returns-in-Ok-clause-answer g c m is =
    let s = c.args.request.now in
    let old = boards (g.F.FileBoard.board c.args.files.now) (g.M.MapBoard.map c.args.map.now) in
    let new = boards (g.F.FileBoard.board c.submit.new.files) (g.M.MapBoard.map c.submit.new.map) in
    let before = c.args.self.now.wire in
    let after = c.submit.new.self in
    let bytes = c.in-Ok.bytes in
    let came = is_sent g.W.Wire.wire g.W.Wire.gives before old m s c.as_slice-bytes.result.now (Ok bytes) after new is c.as_slice-bytes.ensures c.in-Ok.ensures.given c.in-Ok.ensures.honest in
    let some = subst (λ (k : Opcode). IsSome (answered (reply_form k))) is.opcode c.requires.answered in
    answers_heard g.W.Wire.wire g.W.Wire.gives before old m bytes c.hear.result after new some came
    (subst (λ r. JudgesOrNot r bytes c.hear.result) (heard_same m s bytes is) c.hear.ensures.heard)
