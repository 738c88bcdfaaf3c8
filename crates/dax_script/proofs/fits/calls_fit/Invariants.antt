use Rattle.std.proofs.Common.{◌≡◌, ◌≤◌, [], take, drop}
use Rattle.dax_script.specs.ScriptWords.{hold_modes}
use Rattle.dax_script.specs.Fits.{calls_fit}
use Rattle.dax_script.proofs.fits.calls_fit.Given as goal

abbrev pub invariant-loop-call : goal.invariant-loop-call
invariant-loop-call l = (calls_fit l.files l.ranges (take l.call-index l.calls) (drop l.call-index l.calls) ≡ calls_fit l.files l.ranges [] l.calls) × (take l.count l.held ≡ hold_modes (take l.call-index l.calls)) × (l.count ≤ 32)
