use Rattle.std.proofs.Common.{◌≡◌, ◌-◌, ◌^◌, min, take, length}
use Rattle.std.specs.List.{sum_by}
use Rattle.dax_script.specs.ScriptText.{moved}
use Rattle.dax_script.proofs.fits.are_few.Given as goal

abbrev pub invariant-loop-calls : goal.invariant-loop-calls
invariant-loop-calls l = (l.made ≡ min (sum_by length (take l.calls-index l.guests)) (2 ^ 64 - 1)) × (l.bytes ≡ min (sum_by moved (take l.calls-index l.guests)) (2 ^ 64 - 1))
