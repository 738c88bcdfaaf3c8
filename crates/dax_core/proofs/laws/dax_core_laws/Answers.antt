use Rattle.dax_core.proofs.Stepping.{core_keeps, start_good}
use Rattle.dax_core.proofs.Running.{deed_grows}
use Rattle.dax_core.proofs.Halving.{by_halves, decided, others_stay}
use Rattle.dax_core.proofs.Outcomes.{one_outcome}
use Rattle.dax_core.proofs.laws.dax_core_laws.Goals as goal

pub returns-clause-start : goal.returns-clause-start
returns-clause-start c = start_good

pub returns-clause-good : goal.returns-clause-good
returns-clause-good c = core_keeps

pub returns-clause-grows : goal.returns-clause-grows
returns-clause-grows c = deed_grows

pub returns-clause-one_outcome : goal.returns-clause-one_outcome
returns-clause-one_outcome c = one_outcome

pub returns-clause-good_by_halves : goal.returns-clause-good_by_halves
returns-clause-good_by_halves c = by_halves

pub returns-clause-decided_by_halves : goal.returns-clause-decided_by_halves
returns-clause-decided_by_halves c = decided

pub returns-clause-other_half : goal.returns-clause-other_half
returns-clause-other_half c = others_stay
