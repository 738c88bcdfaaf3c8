use Rattle.guest_dax.proofs.Counting.{swept, counted-few}
use Rattle.guest_dax.proofs.turns.sweep.Goals as goal

pub returns-clause-sweeps : goal.returns-clause-sweeps
returns-clause-sweeps g c = swept _ _ _ c.count_free-free.result c.requires c.sound_ranges.ensures.looks c.count_free-free.ensures c.forget_looks.ensures

pub returns-clause-few : goal.returns-clause-few
returns-clause-few g c = counted-few _ _ c.count_free-free.result c.count_free-free.ensures.counted
