use Rattle.std.proofs.Common.{◌≡◌, ◌≤◌, ◌*◌, take}
use Rattle.std.specs.List.{sum_by}
use Rattle.window_core.specs.Window.{pins_on}
use Rattle.window_core.proofs.window.CoreWindow.count.Given as goal

abbrev pub invariant-loop-guest : goal.invariant-loop-guest
invariant-loop-guest l = (l.total ≡ sum_by (pins_on l.range) (take l.guest l.self.pins.items)) × (l.total ≤ 64 * l.guest)
