use Rattle.std.proofs.Common.{◌≡◌, ◌++◌, map, take}
use Rattle.std.specs.List.{flat_map}
use Rattle.plain_text.specs.Printed.{line}
use Rattle.dax_script.specs.ScriptPrinted.{call_words}
use Rattle.dax_script.proofs.prints.put_calls.Given as goal

abbrev pub invariant-loop-call : goal.invariant-loop-call
invariant-loop-call l = l.out.items ≡ l.fn.out.items ++ flat_map line (map (call_words l.files) (take l.call-index l.calls))
