use Rattle.std.proofs.Common.{append_assoc, rules}
use Rattle.transcript_text.proofs.Printed.{guest_printed}
use Rattle.transcript_text.proofs.printing.put_guest.Goals as goal

pub returns : goal.returns
returns c = rw (guest_printed c.args.guest.now) (search (rules, append_assoc))
