use Rattle.std.proofs.Common.{length}
use Rattle.daxwire.proofs.Divided.{IsCutAt}
use Rattle.daxwire.proofs.divides.divide.Given as goal

-- what was passed and what is left say the texts together
abbrev pub invariant-loop-line : goal.invariant-loop-line
invariant-loop-line l = IsCutAt l.input l.rest l.passed

abbrev pub decreases-loop-line : goal.decreases-loop-line
decreases-loop-line l = length l.rest
