use Rattle.std.proofs.Common.{◌∙◌, sym, arith}
use Rattle.vring.proofs.ScatterLemmas.{scattered_step, scattered_end}
use Rattle.vring.proofs.transfers.scatter_into.Goals as goal

pub loop-piece-preserved : goal.loop-piece-preserved
loop-piece-preserved c = record {
  len = omega arith;
  value = rw (c.put.ensures.value, c.split_at.ensures.front, c.split_at.ensures.back) (scattered_step _ _ _ _ _ (record { addr = 0; len = 0 }) c.loop-piece-test.true c.min-len.ensures ∙ c.loop-piece.invariant.value);
}

pub returns-clause-value : goal.returns-clause-value
returns-clause-value c = sym (scattered_end _ _ _ _ c.loop-piece-test.false) ∙ c.loop-piece.invariant.value
