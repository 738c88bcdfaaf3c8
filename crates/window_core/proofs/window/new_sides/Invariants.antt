use Rattle.std.proofs.Common.{◌≡◌, replicate}
use Rattle.window_core.specs.Window.{new_side}
use Rattle.window_core.proofs.window.new_sides.Given as goal

abbrev pub invariant-loop-file : goal.invariant-loop-file
invariant-loop-file l = l.sides.items ≡ replicate l._file (new_side l.guests)
