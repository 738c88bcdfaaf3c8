use Rattle.std.proofs.Common.{◌≡◌, map, take}
use Rattle.file_share.specs.Known.{start_body}
use Rattle.file_share.proofs.share.bodies_of.Given as goal

abbrev pub invariant-loop-first : goal.invariant-loop-first
invariant-loop-first l = l.bodies.items ≡ map start_body (take l.first-index l.firsts)
