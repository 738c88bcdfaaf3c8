use Rattle.std.proofs.Common.{◌∙◌, ◌++◌, sym}
use Rattle.transcript_text.specs.Drafts.{behind, listed}
use Rattle.transcript_text.proofs.LinesRead.{guest_told, guest_untold}
use Rattle.transcript_text.proofs.parsing.guest_line.Goals as goal

pub returns-in_default-clause-value : goal.returns-in_default-clause-value
returns-in_default-clause-value c = sym (guest_untold c.args.draft.ranges (c.args.draft.files ++ listed c.args.draft.file) (c.args.draft.guests ++ listed c.args.draft.guest) (behind c.args.more) (sym c.guest.ensures ∙ c.in_default.is))

pub returns-clause-value : goal.returns-clause-value
returns-clause-value c = c.in_ok-draft.ensures.value ∙ sym (guest_told c.args.draft.ranges (c.args.draft.files ++ listed c.args.draft.file) (c.args.draft.guests ++ listed c.args.draft.guest) (behind c.args.more) c.in-Some.part (sym c.guest.ensures ∙ c.in-Some.is))
