use Rattle.std.proofs.Common.{◌≡◌, [], drop}
use Rattle.std.specs.List.{list_all}
use Rattle.dax_script.specs.Fits.{calls_fit}
use Rattle.dax_script.proofs.fits.guests_fit.Given as goal

abbrev pub invariant-loop-calls : goal.invariant-loop-calls
invariant-loop-calls l = list_all (calls_fit l.files l.ranges []) (drop l.calls-index l.guests) ≡ list_all (calls_fit l.files l.ranges []) l.guests
