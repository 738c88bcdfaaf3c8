use Rattle.std.proofs.Common.{◌≡◌, ◌∙◌, ◌++◌, sym, subst, Option, option_map, IfOk}
use Rattle.transcript_text.specs.TranscriptReading.{Reading}
use Rattle.transcript_text.specs.Drafts.{behind, listed, reading_of}
use Rattle.transcript_text.proofs.LinesRead.{file_told, file_untold}
use Rattle.transcript_text.proofs.parsing.file_line.Goals as goal

pub returns-in_default-clause-value : goal.returns-in_default-clause-value
returns-in_default-clause-value c = sym (file_untold c.args.draft.ranges (c.args.draft.files ++ listed c.args.draft.file) (c.args.draft.guests ++ listed c.args.draft.guest) (behind c.args.more) (sym c.in_ok-part.ensures ∙ c.in_default.is))

pub returns-clause-value : goal.returns-clause-value
returns-clause-value c = subst (λ (r : Option Reading). IfOk c.with_file.result (λ o. option_map reading_of o ≡ r)) (sym (file_told c.args.draft.ranges (c.args.draft.files ++ listed c.args.draft.file) (c.args.draft.guests ++ listed c.args.draft.guest) (behind c.args.more) c.in-Some.part (sym c.in_ok-part.ensures ∙ c.in-Some.is))) c.with_file.ensures.value
