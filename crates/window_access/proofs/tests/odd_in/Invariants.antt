use Rattle.window_access.specs.Access.{CanAccess}
use Rattle.window_access.proofs.tests.odd_in.Given as goal

abbrev pub invariant-loop-step : goal.invariant-loop-step
invariant-loop-step g l = CanAccess l.files l.map
