use Rattle.std.proofs.Common.{◌≡◌, take}
use Rattle.window_core.specs.Window.{pins_on}
use Rattle.window_core.proofs.pin_row.place_on.Given as goal

abbrev pub invariant-loop-at : goal.invariant-loop-at
invariant-loop-at l = pins_on l.range (take l.at l.pins) ≡ 0
