use Rattle.std.proofs.Common.{append_assoc, rules}
use Rattle.transcript_text.proofs.Printed.{file_printed}
use Rattle.transcript_text.proofs.printing.put_file.Goals as goal

pub returns : goal.returns
returns c = rw (file_printed c.args.file.now) (search (rules, append_assoc))
