use Rattle.std.proofs.Common.{codes, append_assoc, rules}
use Rattle.plain_text.proofs.PrintedLines.{joined_first}
use Rattle.transcript_text.specs.TranscriptText.{log_entry_words}
use Rattle.transcript_text.proofs.printing.put_log_entry.Goals as goal

pub returns : goal.returns
returns c = rw (joined_first (codes "log") (log_entry_words c.args.entry.now)) (search (rules, append_assoc))
