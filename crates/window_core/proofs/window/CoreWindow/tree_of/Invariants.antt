use Rattle.std.proofs.Common.{◌≢◌, ◌<◌, ℕ, Some}
use Rattle.window_core.specs.Window.{side}
use Rattle.window_core.specs.Machine.{window_of}
use Rattle.window_core.proofs.window.CoreWindow.tree_of.Given as goal

abbrev pub invariant-loop-file : goal.invariant-loop-file
invariant-loop-file l = (f : ℕ) → f < l.file → (side (window_of l.self) f).holder ≢ Some l.guest
