use Rattle.std.proofs.Common.{◌≡◌, ◌≤◌, ◌*◌, sum}
use Rattle.chain_stream.specs.Frames.{lengths_at}
use Rattle.chain_stream.proofs.frames.sum_at.Given as goal

abbrev pub invariant-loop-k : goal.invariant-loop-k
invariant-loop-k l = record { value : l.total ≡ sum (lengths_at l.bytes l.first l.k); small : l.total ≤ l.k * 4294967296 }
