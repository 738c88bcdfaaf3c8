use Rattle.vring.proofs.Offers.{back_taken}
use Rattle.vring.proofs.laws.pushed_is_taken.Goals as goal

pub returns : goal.returns
returns c = back_taken
