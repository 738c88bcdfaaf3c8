use Rattle.std.proofs.Common.{◌≡◌, ◌++◌, take}
use Rattle.std.specs.List.{flat_map}
use Rattle.plain_text.specs.Printed.{line}
use Rattle.transcript_text.specs.TranscriptText.{guest_lines}
use Rattle.transcript_text.proofs.printing.put_guests.Given as goal

abbrev pub invariant-loop-guest : goal.invariant-loop-guest
invariant-loop-guest l = l.out.items ≡ l.fn.out.items ++ flat_map line (flat_map guest_lines (take l.guest-index l.guests))
