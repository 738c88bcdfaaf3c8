use Rattle.std.proofs.Common.{◌∙◌, ap, sym, Option, option_map}
use Rattle.transcript_text.specs.declared.transcripts.FilePart.{FilePart}
use Rattle.transcript_text.specs.Drafts.{reading_of}
use Rattle.transcript_text.proofs.Drafted.{filed, entry_in}
use Rattle.transcript_text.proofs.drafts.add_entry.Goals as goal

pub returns-in_default-2-clause-value : goal.returns-in_default-2-clause-value
returns-in_default-2-clause-value c = let d = c.args.draft in
    sym (entry_in d c.in-Some.before c.args.entry c.requires c.in-None.is c.in-Some.is ∙ ap (λ (o : Option FilePart). option_map (λ p. reading_of (filed d p)) o) (sym c.in_ok-part.ensures ∙ c.in_default-2.is))

pub returns-clause-value : goal.returns-clause-value
returns-clause-value c = let d = c.args.draft in
    sym (entry_in d c.in-Some.before c.args.entry c.requires c.in-None.is c.in-Some.is ∙ ap (λ (o : Option FilePart). option_map (λ p. reading_of (filed d p)) o) (sym c.in_ok-part.ensures ∙ c.in-Some-2.is))
