use Rattle.std.proofs.Common.{length}
use Rattle.plain_text.proofs.Numerals.{IsBegun}
use Rattle.plain_text.proofs.numbers.digits.Given as goal

-- n is what the digits before the rest write, so that it takes one more
abbrev pub invariant-loop-rest : goal.invariant-loop-rest
invariant-loop-rest l = IsBegun l.word l.rest l.n

abbrev pub decreases-loop-rest : goal.decreases-loop-rest
decreases-loop-rest l = length l.rest
