-- What a carried request leaves, and keeps.
use Rattle.std.proofs.Common.{◌≡◌, ◌∙◌, ap, sym, refl, subst, ◌^◌, ◌<◌, ◌≤◌, ℕ, false, List, length, Option, Some, None, Result, Ok, Err, inl, inr, arith}
use Rattle.plain_file.specs.Limits.{max_part}
use Rattle.vring.specs.declared.driver_side.Used.{Used}
use Rattle.vring.specs.declared.driver_side.BadUsed.{BadUsed}
use Rattle.vring.specs.Driver.{DriverView, Takes, offered_room, used_at, written_in}
use Rattle.vring.specs.Ring.{used_pushed}
use Rattle.vring.proofs.Offers.{back_taken, back_written}
use Rattle.plain_file.specs.Board.{BoardView}
use Rattle.page_map.specs.Board.{MapView}
use Rattle.fuse_device.specs.State.{State, World}
use Rattle.fuse_device.specs.Promises.{CanStep}
use Rattle.guest_wire.specs.declared.wires.WireError.{WireError}
use Rattle.guest_wire.specs.declared.wires.WireError.TheVariants as errors
use Rattle.guest_wire.specs.Wires.{WireView, boards, Sent, IsStep, Honest, HasCause}
use Rattle.guest_wire.proofs.Carrying.{carried_by_step}
use Rattle.guest_wire.specs.Keeps.{KeepsBoards}
use Rattle.guest_wire.proofs.StepKeeps.{KeepsBoards-same, KeepsBoards-device_step}
use Rattle.dax_host.specs.Queue.{QueueView, IsSetUp, IsOffered, after_answer, after_return}
use Rattle.dax_host.specs.Carrying.{Host, Carries}

-- the driver finds the entry of the chain that the device pushed
pub taken_back : (q : QueueView) (room len : ℕ) → IsOffered q room → room ≤ q.driver.part → len ≤ room → q.ring.used_index < 2 ^ 16
    → used_at (used_pushed q.ring q.memory 0 len) q.driver.size q.driver.taken q.driver.room ≡ Ok (Some (record { head = 0; len = len }))
taken_back q room len out small fits index =
    let up = out.set_up in
    let most : room ≤ max_part = omega (arith, small, up.part) in
    let found = back_taken q.memory q.ring q.driver.size q.driver.part room len up.size up.layout index fits most up.len in
    let at = subst (λ (n : ℕ). used_at (used_pushed q.ring q.memory 0 len) q.driver.size n (Some room) ≡ Ok (Some (record { head = 0; len = len }))) up.used found in
    subst (λ (r : Option ℕ). used_at (used_pushed q.ring q.memory 0 len) q.driver.size q.driver.taken r ≡ Ok (Some (record { head = 0; len = len }))) (sym out.offered) at

-- .. and takes that, and nothing else
pub taken_alone : (old new : DriverView) (mem : List ℕ) (used : Used) (result : Result (Option Used) BadUsed) → used_at mem old.size old.taken old.room ≡ Ok (Some used) → Takes old mem result new → result ≡ Ok (Some used)
taken_alone old new mem used (Ok (Some u)) back h = sym h.0 ∙ back
taken_alone old new mem used (Ok None) back h = sym h.0 ∙ back
taken_alone old new mem used (Err e) back h = sym h.0 ∙ back

-- the driver finds the answer in the room
pub written_back : (q new : QueueView) (answer : List ℕ) (room len : ℕ) → IsSetUp q → len ≡ length answer → len ≤ room → room ≤ q.driver.part
    → new ≡ after_return (after_answer q room answer) len → written_in new.memory new.driver.size new.driver.part len ≡ answer
written_back q new answer room len up count fits small is =
    ap (λ (v : QueueView). written_in v.memory v.driver.size v.driver.part len) is
    ∙ back_written q.memory answer (offered_room q.driver.size q.driver.part room) q.ring q.driver.size q.driver.part room 0 len len up.size up.layout refl count fits small up.len

-- what the boards serve they serve under another name
pub CanStep-same : (s : State) (files : BoardView) (map : MapView) (readable same : List ℕ) → same ≡ readable → CanStep s files map readable → CanStep s files map same
CanStep-same s files map readable same e can = subst (CanStep s files map) (sym e) can

-- a queue and its device are what an honest wire to the whole daemon is ..
pub Carries-Honest : (w : WireView) (old : Host) (sent : Sent) (result : Result (List ℕ) WireError) (new : Host) → w.stays ≡ false → Carries old sent result new → Honest w old.world sent result new.world
Carries-Honest w old sent (Ok bytes) new whole h = carried_by_step w old.world sent bytes new.world whole h.step
Carries-Honest w old sent (Err errors.Memory) new whole (inl h) = inl (ap (λ (x : Host). x.world) h.same)
Carries-Honest w old sent (Err errors.Memory) new whole (inr (inl h)) = inl h.world
Carries-Honest w old sent (Err errors.Memory) new whole (inr (inr h)) = inr (inr (_, carried_by_step w old.world sent _ new.world whole h.step))
Carries-Honest w old sent (Err errors.Fault) new whole h = absurd h

-- .. and never fail
pub Carries-HasCause : (old : Host) (sent : Sent) (result : Result (List ℕ) WireError) (new : Host) (before now : ℕ) → Carries old sent result new → HasCause before result now
Carries-HasCause old sent (Ok bytes) new before now h e = cc
Carries-HasCause old sent (Err errors.Memory) new before now h e = cc
Carries-HasCause old sent (Err errors.Fault) new before now h e = absurd h

stepped : (old : World) (sent : Sent) (bytes : List ℕ) (new : World) → CanStep old.state old.files old.map sent.bytes → IsStep old sent bytes new → KeepsBoards (boards old.files old.map) (boards new.files new.map)
stepped old sent bytes new can e =
    subst (λ (s : World × List ℕ). KeepsBoards (boards old.files old.map) (boards s.0.files s.0.map)) e (KeepsBoards-device_step old.state old.files old.map sent.bytes sent.room can)

unchanged : (old new : Host) → new.world ≡ old.world → KeepsBoards (boards old.world.files old.world.map) (boards new.world.files new.world.map)
unchanged old new same =
    subst (λ (w : World). KeepsBoards (boards old.world.files old.world.map) (boards w.files w.map)) (sym same) (KeepsBoards-same old.world.files old.world.map)

-- the boards keep what they keep over any wire
pub Carries-KeepsBoards : (old : Host) (sent : Sent) (result : Result (List ℕ) WireError) (new : Host) → CanStep old.world.state old.world.files old.world.map sent.bytes → Carries old sent result new
    → KeepsBoards (boards old.world.files old.world.map) (boards new.world.files new.world.map)
Carries-KeepsBoards old sent (Ok bytes) new can h = stepped old.world sent bytes new.world can h.step
Carries-KeepsBoards old sent (Err errors.Memory) new can (inl h) = unchanged old new (ap (λ (x : Host). x.world) h.same)
Carries-KeepsBoards old sent (Err errors.Memory) new can (inr (inl h)) = unchanged old new h.world
Carries-KeepsBoards old sent (Err errors.Memory) new can (inr (inr h)) = stepped old.world sent _ new.world can h.step
Carries-KeepsBoards old sent (Err errors.Fault) new can h = absurd h
