use Rattle.std.proofs.Common.{◌≡◌, Ok, IfOk, arith, rules}
use Rattle.std.proofs.lemmas.Grind.{common_steps}
use Rattle.transcript_text.specs.TranscriptReading.{transcript_of, whole}
use Rattle.transcript_text.proofs.TextFits.{parsed_fits}
use Rattle.transcript_text.proofs.parsing.parse.Goals as goal

pub returns-clause-fits : goal.returns-clause-fits
unfolding transcript_of whole
returns-clause-fits c =
    let value : IfOk c.parse_from.result (λ t. transcript_of c.args.text.now ≡ Ok t) = first_of (search rules, grind (arith, common_steps)) in
    parsed_fits c.parse_from.result c.args.text.now value
