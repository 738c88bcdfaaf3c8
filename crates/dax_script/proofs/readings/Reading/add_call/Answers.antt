use Rattle.std.proofs.Common.{◌++◌, ◌∙◌, ap, arith}
use Rattle.dax_script.specs.Totals.{modes_of}
use Rattle.dax_script.proofs.Totals.{totals_new}
use Rattle.dax_script.proofs.readings.Reading.add_call.Goals as goal

pub invariant_of-self-2 : goal.invariant_of-self-2
invariant_of-self-2 c = (
  totals_new _ _ c.in-Some.calls _ _ _ _ _ _ c.args.call c.self.invariant.0 c.in-Some.is c.in_ok-push.ensures.ok
      (c.put_mode.ensures ∙ ap (λ ms. ms ++ modes_of c.held_mode-mode.result) c.make_room.ensures.same
      ∙ ap (λ o. c.self.inside.held.items ++ modes_of o) c.held_mode-mode.ensures)
      (omega (arith, c.saturating_add-bytes.ensures, c.moved_by.ensures)) (omega arith) (omega arith),
  c.self.invariant.1,
)
