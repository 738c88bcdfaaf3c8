use Rattle.dax_host.proofs.Rounds.{carried_read}
use Rattle.dax_host.proofs.laws.requests_go_through.Goals as goal

pub returns-clause-carried : goal.returns-clause-carried
returns-clause-carried c = carried_read
