use Rattle.std.proofs.Common.{◌≡◌, ◌-◌, ◌^◌, min, take}
use Rattle.dax_script.specs.ScriptText.{moved}
use Rattle.dax_script.proofs.fits.bytes_moved.Given as goal

abbrev pub invariant-loop-call : goal.invariant-loop-call
invariant-loop-call l = l.bytes ≡ min (moved (take l.call-index l.calls)) (2 ^ 64 - 1)
