use Rattle.std.proofs.Common.{◌≡◌, ◌++◌, take}
use Rattle.std.specs.List.{flat_map}
use Rattle.plain_text.specs.Printed.{line}
use Rattle.dax_script.specs.ScriptPrinted.{guest_lines}
use Rattle.dax_script.proofs.prints.put_guests.Given as goal

abbrev pub invariant-loop-calls : goal.invariant-loop-calls
invariant-loop-calls l = l.out.items ≡ l.fn.out.items ++ flat_map line (flat_map (guest_lines l.files) (take l.calls-index l.guests))
