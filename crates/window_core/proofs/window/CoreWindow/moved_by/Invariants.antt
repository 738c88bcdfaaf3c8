use Rattle.std.proofs.Common.{◌≢◌, ◌<◌, ℕ}
use Rattle.window_core.specs.declared.states.RangeState.TheVariants as ranges
use Rattle.window_core.specs.Window.{state}
use Rattle.window_core.specs.Machine.{window_of}
use Rattle.window_core.proofs.window.CoreWindow.moved_by.Given as goal

abbrev pub invariant-loop-range : goal.invariant-loop-range
invariant-loop-range l = (r : ℕ) → r < l.range → state (window_of l.self) r ≢ ranges.Moving l.guest
