use Rattle.std.proofs.Common.{◌≡◌, take}
use Rattle.file_share.proofs.share.opening_of.Given as goal

abbrev pub invariant-loop-first : goal.invariant-loop-first
invariant-loop-first l = l.copy ≡ take l.first-index l.firsts
