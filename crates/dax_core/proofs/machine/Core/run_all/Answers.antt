use Rattle.std.proofs.Common.{◌≡◌, ◌∙◌, ◌+◌, ◌≤◌, ℕ, Bool, true, false, List, [], ◌∷◌, ◌++◌, ap, sym, subst, take, arith}
use Rattle.std.proofs.lemmas.List.{take_more}
use Rattle.dax_core.specs.declared.events.GuestEvent.{GuestEvent}
use Rattle.dax_core.specs.Events.{count_of, Ran}
use Rattle.dax_core.proofs.Running.{ran_more, grows_then}
use Rattle.dax_core.proofs.machine.Core.run_all.Goals as goal
use Rattle.dax_core.proofs.machine.Core.run_all.Goals.{then-branch, else-branch}

pub loop-event-preserved : goal.loop-event-preserved
loop-event-preserved c = let es = c.as_slice-event-items.result.now in let i = c.loop-event.event-index in let e = c.event-item.result in let done = c.in_ok-step.field-0 in
    let was = c.args.self.now in let mid = c.loop-event.self in let new = c.step.new.self in let inv = c.loop-event.invariant in
    let more : take (i + 1) es ≡ take i es ++ e ∷ [] = take_more es i e c.loop-event-test.true ∙ ap (λ (x : GuestEvent). take i es ++ x ∷ []) (sym c.event-item.is) in
    let count : c.if-branch.allowed ≡ c.loop-event.allowed + count_of done = elim c.if-branch.branch [
      | then-branch w ↦ w.allowed-is ∙ ap (λ (b : Bool). c.loop-event.allowed + count_of b) (sym w.if-branch.true)
      | else-branch w ↦ (let z : count_of done ≡ 0 = ap (λ (b : Bool). count_of b) w.if-branch.false in let y = w.allowed-is in omega arith)
    ] in
    let few : count_of done ≤ 1 = at_most_one done in let so_far = inv.1 in
    (subst (λ (x : List GuestEvent × ℕ). Ran was x.0 x.1 new) (let p = sym more in let q = sym count in λ k. (p k, q k)) (ran_more was mid new (take i es) c.loop-event.allowed e done inv.0 c.in_ok-step.ensures.stepped), (omega arith), c.step.ensures.good, grows_then was mid new inv.3 c.step.ensures.grown)
  where
    at_most_one : (b : Bool) → count_of b ≤ 1
    at_most_one true = omega arith
    at_most_one false = omega arith
