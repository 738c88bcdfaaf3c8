use Rattle.std.proofs.Common.{arith}
use Rattle.std.proofs.lemmas.Grind.{common_steps}
use Rattle.transcript_text.proofs.Printed.{text_of_parts}
use Rattle.transcript_text.proofs.printing.print.Goals as goal

pub returns : goal.returns
returns c = grind (arith, common_steps, text_of_parts c.args.t.now)
