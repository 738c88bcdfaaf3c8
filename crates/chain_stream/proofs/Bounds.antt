-- How much of a stream is read.
use Rattle.std.proofs.Common.{◌≡◌, ◌+◌, List, [], Option, ℕ, arith}
use Rattle.program_io.specs.Causes.{TakesAtMost}
use Rattle.chain_stream.specs.Frames.{limit}
use Rattle.chain_stream.specs.Courses.{PendingView, Took, chunk}

-- what was read is bounded
pub most_of : (p p' : PendingView) (left left' : Option (List ℕ)) → p ≡ record { rest = []; at = 0 } → Took p p' left left' → TakesAtMost (limit + chunk) left left'
most_of p p' left left' e t = (t.read, t.consumed, omega (arith, t.counted, t.within))
