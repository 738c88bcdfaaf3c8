use Rattle.std.proofs.Common.{arith}
use Rattle.plain_text.proofs.HexPairs.{pairs_more, pairs_done}
use Rattle.plain_text.proofs.hexadecimal.write_pairs.Goals as goal

pub loop-i-preserved : goal.loop-i-preserved
loop-i-preserved c =
    pairs_more c.args.word.now c.loop-i.bytes c.loop-i.i _ _ (omega arith) (omega arith) c.value.ensures.value c.value-in-loop-i.ensures.value c.loop-i.invariant

pub returns : goal.returns
returns c = pairs_done c.args.word.now c.loop-i.bytes c.loop-i.i (omega arith) (omega arith) c.loop-i.invariant
