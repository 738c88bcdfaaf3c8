use Rattle.vring.proofs.Offers.{back_written}
use Rattle.vring.proofs.laws.scattered_is_written.Goals as goal

pub returns : goal.returns
returns c = back_written
