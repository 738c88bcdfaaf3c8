use Rattle.std.proofs.Common.{◌≡◌, take}
use Rattle.guest_dax.specs.Looks.{looks_from}
use Rattle.guest_dax.proofs.acquires.noted_looks.Given as goal

abbrev pub invariant-loop-range : goal.invariant-loop-range
invariant-loop-range g l = l.looks ≡ looks_from 0 (take l.range (g.R.MapBoard.map l.ranges).ranges.looks)
