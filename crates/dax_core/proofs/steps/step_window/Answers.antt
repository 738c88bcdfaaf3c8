use Rattle.std.proofs.Common.{sym, subst}
use Rattle.window_core.specs.Machine.{window_of}
use Rattle.dax_core.specs.declared.events.Event.{Event}
use Rattle.dax_core.specs.Halves.{DidOnWindow}
use Rattle.dax_core.proofs.steps.step_window.Goals as goal

pub returns-in-Look : goal.returns-in-Look
returns-in-Look c = let h = window_of c.args.window.now in subst (λ (e : Event). DidOnWindow c.has_range.result h c.args.guest e h) (sym c.in-Look.is) (c.has_range.ensures c.args.guest)
