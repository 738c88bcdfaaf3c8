use Rattle.std.proofs.Common.{ap, arith, rules}
use Rattle.std.proofs.lemmas.Grind.{common_steps}
use Rattle.plain_text.specs.Words.{parts, line_end}
use Rattle.dax_script.specs.Halts.{Parses}
use Rattle.dax_script.specs.ScriptText.{script_from, script_of}
use Rattle.dax_script.proofs.TextFits.{parsed_fits}
use Rattle.dax_script.proofs.parses.parse.Goals as goal

pub loop-after-init : goal.loop-after-init
unfolding script_of
loop-after-init c = (ap (λ d. script_from 1 d (parts line_end c.args.text.now)) c.new-reading.ensures, omega arith)

pub returns-in_default-clause-fits : goal.returns-in_default-clause-fits
returns-in_default-clause-fits c =
    let reads : Parses c.last_line.result (script_of c.args.text.now) = first_of (search rules, grind (arith, common_steps)) in
    parsed_fits c.last_line.result c.args.text.now reads
