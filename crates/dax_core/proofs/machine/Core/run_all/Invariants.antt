use Rattle.std.proofs.Common.{◌≤◌, take}
use Rattle.dax_core.specs.Core.{Good}
use Rattle.dax_core.specs.Events.{Grows, Ran}
use Rattle.dax_core.proofs.machine.Core.run_all.Given as goal

abbrev pub invariant-loop-event : goal.invariant-loop-event
invariant-loop-event l = Ran l.initial.self (take l.event-index l.event-items) l.allowed l.self × (l.allowed ≤ l.event-index) × Good l.self × Grows l.initial.self l.self
