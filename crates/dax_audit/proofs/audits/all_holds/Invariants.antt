use Rattle.std.proofs.Common.{◌≡◌, map, take}
use Rattle.dax_script.specs.Asks.{hold_places}
use Rattle.dax_audit.proofs.audits.all_holds.Given as goal

abbrev pub invariant-loop-calls : goal.invariant-loop-calls
invariant-loop-calls l = map (λ v. v.items) l.holds.items ≡ map (hold_places 0) (take l.calls-index l.script.guests)
