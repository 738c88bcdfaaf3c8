use Rattle.daxwire.proofs.ServingChains.{IsServedSoFar}
use Rattle.daxwire.proofs.rings.serve_offered.Given as goal

abbrev pub invariant-loop-turn : goal.invariant-loop-turn
invariant-loop-turn l = IsServedSoFar l.fn.device l._turn l.device l.out.items
