use Rattle.guest_run.specs.Telling.{HasFields}
use Rattle.guest_run.proofs.Letters.{letters_are}
use Rattle.guest_run.proofs.lines.line_of.Goals as goal

pub returns-in_ok-letters-in-Err-Busy-clause-fields : goal.returns-in_ok-letters-in-Err-Busy-clause-fields
unfolding HasFields
returns-in_ok-letters-in-Err-Busy-clause-fields g c = rw c.in_ok-letters-in-Err-Busy.ensures (letters_are _)
