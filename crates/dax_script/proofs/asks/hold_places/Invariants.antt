use Rattle.std.proofs.Common.{◌≡◌, ◌++◌, drop}
use Rattle.dax_script.specs.Asks.{hold_places}
use Rattle.dax_script.proofs.asks.hold_places.Given as goal

abbrev pub invariant-loop-at : goal.invariant-loop-at
invariant-loop-at l = l.places.items ++ hold_places l.at (drop l.at l.calls) ≡ hold_places 0 l.calls
