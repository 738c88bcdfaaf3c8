use Rattle.std.proofs.Common.{ap, sym, subst, arith}
use Rattle.dax_device.specs.declared.queue_devices.Turn.{Turn}
use Rattle.dax_device.specs.Queues.{Advances}
use Rattle.daxwire.specs.RingText.{Served}
use Rattle.daxwire.proofs.ServingChains.{nothing_served, served_one, served_none, served_fault, served_all}
use Rattle.daxwire.proofs.rings.serve_offered.Goals as goal

pub loop-turn-init : goal.loop-turn-init
loop-turn-init c = nothing_served c.args.device.now c.args.out.now.items c.requires

pub loop-turn-preserved : goal.loop-turn-preserved
loop-turn-preserved c =
    let h = subst (λ (t : Turn). Advances c.loop-turn.device t c.serve_next.new.chain c.serve_next.new.readable.items c.serve_next.new.self) c.in-Served.is c.in_ok-answer.ensures in
    served_one c.args.device.now c.loop-turn._turn c.loop-turn.device c.serve_next.new.self c.serve_next.new.chain c.serve_next.new.readable.items c.in-Served.answer c.loop-turn.out.items c.put_chain_lines.new.out.items (omega (arith, c.offered-count.ensures)) c.loop-turn.invariant
    h (rw (c.deref.ensures.value, c.as_slice.ensures) at c.in_ok-put_chain_lines-in-Served.ensures)

pub returns-in-Idle-clause-text : goal.returns-in-Idle-clause-text
returns-in-Idle-clause-text c =
    let h = subst (λ (t : Turn). Advances c.loop-turn.device t c.serve_next.new.chain c.serve_next.new.readable.items c.serve_next.new.self) c.in-Idle.is c.in_ok-answer.ensures in
    sym (ap (λ (s : Served). s.text) (served_none c.args.device.now c.loop-turn._turn c.loop-turn.device c.serve_next.new.self c.loop-turn.out.items (omega (arith, c.offered-count.ensures)) c.loop-turn.invariant h.0 h.1))

pub returns-in-Idle-clause-left : goal.returns-in-Idle-clause-left
returns-in-Idle-clause-left c =
    let h = subst (λ (t : Turn). Advances c.loop-turn.device t c.serve_next.new.chain c.serve_next.new.readable.items c.serve_next.new.self) c.in-Idle.is c.in_ok-answer.ensures in
    ap (λ (s : Served). s.left) (served_none c.args.device.now c.loop-turn._turn c.loop-turn.device c.serve_next.new.self c.loop-turn.out.items (omega (arith, c.offered-count.ensures)) c.loop-turn.invariant h.0 h.1)

pub returns-in-Fault-clause-text : goal.returns-in-Fault-clause-text
returns-in-Fault-clause-text c =
    let h = subst (λ (t : Turn). Advances c.loop-turn.device t c.serve_next.new.chain c.serve_next.new.readable.items c.serve_next.new.self) c.in-Fault.is c.in_ok-answer.ensures in
    sym (ap (λ (s : Served). s.text) (served_fault c.args.device.now c.loop-turn._turn c.loop-turn.device c.loop-turn.out.items c.in-Fault.fault (omega (arith, c.offered-count.ensures)) c.loop-turn.invariant h.0))

pub returns-in-Fault-clause-left : goal.returns-in-Fault-clause-left
returns-in-Fault-clause-left c =
    let h = subst (λ (t : Turn). Advances c.loop-turn.device t c.serve_next.new.chain c.serve_next.new.readable.items c.serve_next.new.self) c.in-Fault.is c.in_ok-answer.ensures in
    ap (λ (s : Served). s.left) (served_fault c.args.device.now c.loop-turn._turn c.loop-turn.device c.loop-turn.out.items c.in-Fault.fault (omega (arith, c.offered-count.ensures)) c.loop-turn.invariant h.0)

pub returns-clause-text : goal.returns-clause-text
returns-clause-text c = sym (ap (λ (s : Served). s.text) (served_all c.args.device.now c.loop-turn._turn c.loop-turn.device c.loop-turn.out.items (omega (arith, c.offered-count.ensures)) c.loop-turn.invariant))

pub returns-clause-left : goal.returns-clause-left
returns-clause-left c = ap (λ (s : Served). s.left) (served_all c.args.device.now c.loop-turn._turn c.loop-turn.device c.loop-turn.out.items (omega (arith, c.offered-count.ensures)) c.loop-turn.invariant)
