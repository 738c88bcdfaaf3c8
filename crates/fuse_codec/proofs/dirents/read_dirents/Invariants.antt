use Rattle.std.proofs.Common.{length}
use Rattle.fuse_codec.proofs.DirentLaws.{WholeBefore}
use Rattle.fuse_codec.proofs.dirents.read_dirents.Given as goal

abbrev pub invariant-loop-rest : goal.invariant-loop-rest
invariant-loop-rest l = WholeBefore l.ones l.bytes l.rest

abbrev pub decreases-loop-rest : goal.decreases-loop-rest
decreases-loop-rest l = length l.rest
