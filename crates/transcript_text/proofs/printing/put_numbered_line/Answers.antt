use Rattle.std.proofs.Common.{◌∷◌, [], decimal, append_assoc, append-nil, rules}
use Rattle.plain_text.proofs.PrintedLines.{joined_first}
use Rattle.transcript_text.proofs.printing.put_numbered_line.Goals as goal

pub returns : goal.returns
returns c = rw (joined_first c.args.word.now (decimal c.args.n ∷ [])) (search (rules, append_assoc, append-nil))
