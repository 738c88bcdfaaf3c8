use Rattle.std.proofs.Common.{sym}
use Rattle.daxwire.proofs.ReadForms.{read_form_none}
use Rattle.daxwire.proofs.ring_lines.read_as.Goals as goal

pub returns-in-None : goal.returns-in-None
returns-in-None c = read_form_none c.args.opcode (sym c.in-None.ensures)
