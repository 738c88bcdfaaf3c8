use Rattle.std.proofs.Common.{◌∷◌, [], codes, decimal, append_assoc, append-nil, rules}
use Rattle.hex.specs.Hex.{encode_lower}
use Rattle.plain_text.proofs.PrintedLines.{joined_first}
use Rattle.transcript_text.proofs.printing.put_file_line.Goals as goal

pub returns : goal.returns
returns c =
    let file = c.args.file.now in
    rw (joined_first (codes "file") (file.name ∷ decimal file.first.size ∷ encode_lower (file.first.fill ∷ []) ∷ [])) (search (rules, append_assoc, append-nil))
