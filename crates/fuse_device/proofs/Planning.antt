-- What is done by the plan of a chain is the step on the chain.
use Rattle.std.proofs.Common.{◌≡◌, ◌∙◌, ap, sym, refl, ℕ, ◌-◌, Bool, true, false, true≢false, not, ◌&&◌, nat_lt, List, [], length, drop, Option, Some, None, Result, Ok, Err, if◌then◌else◌}
use Rattle.fuse_codec.specs.Opcodes.{opcode_of}
use Rattle.fuse_codec.specs.Reading.{body_of, message_with, message_as, message_of}
use Rattle.fuse_codec.specs.declared.errors.BadRequest.{BadRequest}
use Rattle.fuse_codec.specs.declared.messages.Message.{Message}
use Rattle.fuse_codec.specs.declared.messages.Request.{Request}
use Rattle.fuse_codec.specs.declared.opcodes.Opcode.{Opcode}
use Rattle.fuse_wire.specs.declared.records.InHeader.{InHeader}
use Rattle.page_map.specs.Board.{MapView}
use Rattle.plain_file.specs.Board.{BoardView}
use Rattle.fuse_device.specs.State.{State, World}
use Rattle.fuse_device.specs.Checks.{Outcome}
use Rattle.fuse_device.specs.Steps.{Step, is_forget_number, header_at, judged_message, judged, replied, forgot, device_step}
use Rattle.fuse_device.specs.Promises.{CanServe, CanStep}
use Rattle.fuse_device.specs.DataSteps.{file_in, named_file, data_judged_message, data_judged, data_step, CanServeData, CanStepData}
use Rattle.fuse_device.specs.Plans.{planned, plan, is_forget_chain, carried, plan_step, whole_plan_step, plan_file, CanServePlan}
use Rattle.fuse_device.specs.declared.plans.Plan.{Plan}
use Rattle.fuse_device.specs.declared.plans.Plan.TheVariants as plans
use Rattle.fuse_device.proofs.DataLaws.{with_header, file_named}

-- ---- a message has its header's number

abbrev unique_in : Result Message BadRequest → ℕ
unique_in (Err bad) = 0
unique_in (Ok m) = m.head.unique

unique_with : (h : InHeader) (q : Option Request) (m : Message) → message_with h q ≡ Ok m → m.head.unique ≡ h.unique
unique_with h None m e = absurd cc
unique_with h (Some q) m e = sym (ap unique_in e)

unique_as : (h : InHeader) (k : Option Opcode) (body : List ℕ) (m : Message) → message_as h k body ≡ Ok m → m.head.unique ≡ h.unique
unique_as h None body m e = absurd cc
unique_as h (Some k) body m e = unique_with h (body_of k body) m e

unique_of : (readable : List ℕ) (m : Message) → message_of readable ≡ Ok m → m.head.unique ≡ (header_at readable).unique
unique_of readable m e = unique_as (header_at readable) (opcode_of (header_at readable).opcode) (drop 40 readable) m (with_header readable m e)

-- ---- what is done

-- each message has this number
abbrev AreOf : ℕ → Result Message BadRequest → Type 0
AreOf unique d = (m : Message) → d ≡ Ok m → m.head.unique ≡ unique

data_planned : (w : World) (room unique : ℕ) (d : Result Message BadRequest) → AreOf unique d → replied unique (data_judged w room d) ≡ carried (data_judged_message w room) w (planned unique d)
data_planned w room unique (Err bad) h = refl
data_planned w room unique (Ok m) h = ap (λ u. replied u (data_judged_message w room m)) (sym (h m refl))

whole_planned : (w : World) (room unique : ℕ) (d : Result Message BadRequest) → AreOf unique d → replied unique (judged w room d) ≡ carried (judged_message w room) w (planned unique d)
whole_planned w room unique (Err bad) h = refl
whole_planned w room unique (Ok m) h = ap (λ u. replied u (judged_message w room m)) (sym (h m refl))

data_choice : (short forget few : Bool) (judge : Message → Outcome) (w : World) (reply : Step) (p : Plan) → reply ≡ carried judge w p
    → (if short then (w, []) else if forget then (w, []) else if few then (w, []) else reply) ≡ carried judge w (if short then plans.Silent else if forget then plans.Silent else if few then plans.Silent else p)
data_choice true forget few judge w reply p h = refl
data_choice false true few judge w reply p h = refl
data_choice false false true judge w reply p h = refl
data_choice false false false judge w reply p h = h

whole_choice : (short forget few : Bool) (judge : Message → Outcome) (w : World) (forgotten reply : Step) (p : Plan) → not short && forget ≡ false → reply ≡ carried judge w p
    → (if short then (w, []) else if forget then forgotten else if few then (w, []) else reply) ≡ carried judge w (if short then plans.Silent else if forget then plans.Silent else if few then plans.Silent else p)
whole_choice true forget few judge w forgotten reply p f h = refl
whole_choice false true few judge w forgotten reply p f h = absurd (true≢false f)
whole_choice false false true judge w forgotten reply p f h = refl
whole_choice false false false judge w forgotten reply p f h = h

forget_choice : (short forget : Bool) (none forgotten rest : Step) → not short && forget ≡ true → (if short then none else if forget then forgotten else rest) ≡ forgotten
forget_choice true forget none forgotten rest f = absurd (true≢false (sym f))
forget_choice false true none forgotten rest f = refl
forget_choice false false none forgotten rest f = absurd (true≢false (sym f))

-- a daemon that stays as it is does by the plan what it does on the chain
pub data_step_planned : (w : World) (readable : List ℕ) (room : ℕ) → data_step w readable room ≡ plan_step w (plan readable room) room
unfolding data_step plan plan_step
data_step_planned w readable room =
    let unique = (header_at readable).unique in
    data_choice (nat_lt (length readable) 40) (is_forget_number (header_at readable).opcode) (nat_lt room 16) (data_judged_message w room) w
    (replied unique (data_judged w room (message_of readable))) (planned unique (message_of readable))
    (data_planned w room unique (message_of readable) (unique_of readable))

-- and a whole daemon too, but on a forget
pub device_step_planned : (w : World) (readable : List ℕ) (room : ℕ) → is_forget_chain readable ≡ false → device_step w readable room ≡ whole_plan_step w (plan readable room) room
unfolding device_step plan whole_plan_step
device_step_planned w readable room other =
    let unique = (header_at readable).unique in
    whole_choice (nat_lt (length readable) 40) (is_forget_number (header_at readable).opcode) (nat_lt room 16) (judged_message w room) w
    (forgot w (message_of readable), []) (replied unique (judged w room (message_of readable))) (planned unique (message_of readable)) other
    (whole_planned w room unique (message_of readable) (unique_of readable))

-- a forget is answered nothing
pub device_step_forgot : (w : World) (readable : List ℕ) (room : ℕ) → is_forget_chain readable ≡ true → device_step w readable room ≡ (forgot w (message_of readable), [])
unfolding device_step
device_step_forgot w readable room forget =
    let none : Step = (w, []) in
    let reply : Step = replied (header_at readable).unique (judged w room (message_of readable)) in
    forget_choice (nat_lt (length readable) 40) (is_forget_number (header_at readable).opcode) none (forgot w (message_of readable), []) (if nat_lt room 16 then none else reply) forget

-- ---- what is carried is the chain's message

planned_message : (unique : ℕ) (d : Result Message BadRequest) (m : Message) → planned unique d ≡ plans.Carry m → d ≡ Ok m
planned_message unique (Err bad) m e = absurd cc
planned_message unique (Ok n) m e = cc

carry_choice : (short forget few : Bool) (p : Plan) (m : Message) → (if short then plans.Silent else if forget then plans.Silent else if few then plans.Silent else p) ≡ plans.Carry m → p ≡ plans.Carry m
carry_choice true forget few p m e = absurd cc
carry_choice false true few p m e = absurd cc
carry_choice false false true p m e = absurd cc
carry_choice false false false p m e = e

pub carried_message : (readable : List ℕ) (room : ℕ) (m : Message) → plan readable room ≡ plans.Carry m → message_of readable ≡ Ok m
unfolding plan
carried_message readable room m e =
    let p : Plan = planned (header_at readable).unique (message_of readable) in
    planned_message (header_at readable).unique (message_of readable) m (carry_choice (nat_lt (length readable) 40) (is_forget_number (header_at readable).opcode) (nat_lt room 16) p m e)

-- ---- boards

named_by : (s : State) (readable : List ℕ) (room : ℕ) (p : Plan) (file : ℕ) → p ≡ plan readable room → plan_file s p ≡ Some file → named_file s readable ≡ Some file
unfolding named_file
named_by s readable room plans.Silent file e n = absurd cc
named_by s readable room (plans.Refuse error unique) file e n = absurd cc
named_by s readable room (plans.Carry m) file e n = ap (file_in s) (carried_message readable room m (sym e)) ∙ n

-- boards that are ready for a chain are ready for its plan
pub step_serves_plan : (s : State) (files : BoardView) (map : MapView) (readable : List ℕ) (room : ℕ) (p : Plan) → p ≡ plan readable room → CanStepData s files map readable → CanServePlan s files map p
step_serves_plan s files map readable room p e h = record {
  there = h.there;
  pages = h.pages;
  ready = λ file n. h.ready file (named_by s readable room p file e n);
}

-- and boards that are ready for a plan, for its request
pub plan_serves : (s : State) (files : BoardView) (map : MapView) (m : Message) → CanServePlan s files map (plans.Carry m) → CanServeData s files map m.head.nodeid m.body
plan_serves s files map m h = record {
  file = λ on. record {
    there = h.there;
    ready = λ other known. h.ready (m.head.nodeid - 2) (file_named s m on other known);
  };
  pages = h.pages;
}

-- the same for a whole daemon
pub step_serves_request : (s : State) (files : BoardView) (map : MapView) (readable : List ℕ) (room : ℕ) (m : Message) → plan readable room ≡ plans.Carry m → CanStep s files map readable → CanServe s files map m.body
step_serves_request s files map readable room m e h = h m (carried_message readable room m e)
