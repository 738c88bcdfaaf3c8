use Rattle.std.proofs.Common.{◌≡◌, map, take}
use Rattle.dax_audit.proofs.audits.all_lives.Given as goal

abbrev pub invariant-loop-part : goal.invariant-loop-part
invariant-loop-part l = map (λ k. k.log.now) l.lives.items ≡ map (λ part. part.log) (take l.part-index l.t.files)
