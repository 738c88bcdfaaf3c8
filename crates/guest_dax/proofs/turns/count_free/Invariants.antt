use Rattle.guest_dax.specs.Turning.{IsCounting}
use Rattle.guest_dax.proofs.turns.count_free.Given as goal

abbrev pub invariant-loop-range : goal.invariant-loop-range
invariant-loop-range g l = IsCounting (g.R.MapBoard.map l.fn.ranges) (g.R.MapBoard.map l.ranges) l.range l.free
