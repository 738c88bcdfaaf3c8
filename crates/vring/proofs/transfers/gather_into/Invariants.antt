use Rattle.std.proofs.Common.{◌≡◌, take, ◌++◌}
use Rattle.vring.specs.Pieces.{gathered}
use Rattle.vring.proofs.transfers.gather_into.Given as goal

abbrev pub invariant-loop-piece : goal.invariant-loop-piece
invariant-loop-piece l = l.out.items ≡ l.fn.out.items ++ gathered l.bytes (take l.piece-index l.chain.readable)
