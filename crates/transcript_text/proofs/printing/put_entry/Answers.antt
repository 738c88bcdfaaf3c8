use Rattle.std.proofs.Common.{◌∷◌, codes, decimal, append_assoc, rules}
use Rattle.plain_text.proofs.PrintedLines.{joined_first}
use Rattle.transcript_text.specs.TranscriptText.{way_words}
use Rattle.transcript_text.proofs.printing.put_entry.Goals as goal

pub returns : goal.returns
returns c =
    let entry = c.args.entry.now in
    rw (joined_first (codes "entry") (decimal entry.guest ∷ decimal entry.call ∷ way_words entry.way)) (search (rules, append_assoc))
