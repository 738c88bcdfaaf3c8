use Rattle.std.proofs.Common.{◌∙◌, ap, sym, Option, option_map}
use Rattle.transcript_text.specs.declared.transcripts.GuestPart.{GuestPart}
use Rattle.transcript_text.specs.Drafts.{reading_of}
use Rattle.transcript_text.proofs.Drafted.{guested, line_in}
use Rattle.transcript_text.proofs.drafts.add_line.Goals as goal

pub returns-clause-value : goal.returns-clause-value
returns-clause-value c = let d = c.args.draft in
    sym (line_in d c.in-Some.before c.args.line c.in-Some.is ∙ ap (λ (o : Option GuestPart). option_map (λ p. reading_of (guested d p)) o) (sym c.in_ok-part.ensures))
