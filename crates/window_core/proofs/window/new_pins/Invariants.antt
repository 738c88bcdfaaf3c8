use Rattle.std.proofs.Common.{◌≡◌, [], replicate}
use Rattle.window_core.proofs.window.new_pins.Given as goal

abbrev pub invariant-loop-guest : goal.invariant-loop-guest
invariant-loop-guest l = l.pins.items ≡ replicate l._guest []
