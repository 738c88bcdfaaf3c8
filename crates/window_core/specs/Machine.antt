-- The machine's data as the window's half of the core.
use Rattle.window_core.specs.declared.window.CoreWindow.{CoreWindow}
use Rattle.window_core.specs.Window.{Window}

abbrev pub window_of : CoreWindow → Window
window_of w = record { states = w.states.items; targets = w.targets.items; sides = w.sides.items; pins = w.pins.items }
