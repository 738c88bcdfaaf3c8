use Rattle.std.proofs.Common.{◌≡◌, ◌∙◌, ◌∷◌, ◌++◌, sym, subst, Option, option_map, IfOk}
use Rattle.transcript_text.specs.TranscriptReading.{Reading}
use Rattle.transcript_text.specs.Drafts.{behind, listed, reading_of}
use Rattle.transcript_text.proofs.LinesRead.{call_told, call_untold}
use Rattle.transcript_text.proofs.parsing.call_line.Goals as goal

pub returns-in_default-clause-value : goal.returns-in_default-clause-value
returns-in_default-clause-value c = sym (call_untold c.args.draft.ranges (c.args.draft.files ++ listed c.args.draft.file) (c.args.draft.guests ++ listed c.args.draft.guest) (c.args.verb.now ∷ behind c.args.more) (sym c.in_ok-told.ensures ∙ c.in_default.is))

pub returns-clause-value : goal.returns-clause-value
returns-clause-value c = subst (λ (r : Option Reading). IfOk c.add_line.result (λ o. option_map reading_of o ≡ r)) (sym (call_told c.args.draft.ranges (c.args.draft.files ++ listed c.args.draft.file) (c.args.draft.guests ++ listed c.args.draft.guest) (c.args.verb.now ∷ behind c.args.more) c.in-Some.told (sym c.in_ok-told.ensures ∙ c.in-Some.is))) c.add_line.ensures.value
