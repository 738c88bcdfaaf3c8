use Rattle.dax_audit.proofs.Counted.{lines_counted}
use Rattle.dax_audit.proofs.laws.items_are_lines.Goals as goal

pub returns : goal.returns
returns c = lines_counted
