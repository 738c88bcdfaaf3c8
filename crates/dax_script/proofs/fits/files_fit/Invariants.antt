use Rattle.std.proofs.Common.{◌≡◌, [], take, drop}
use Rattle.dax_script.specs.Fits.{files_fit}
use Rattle.dax_script.proofs.fits.files_fit.Given as goal

abbrev pub invariant-loop-i : goal.invariant-loop-i
invariant-loop-i l = files_fit (take l.i l.files) (drop l.i l.files) ≡ files_fit [] l.files
