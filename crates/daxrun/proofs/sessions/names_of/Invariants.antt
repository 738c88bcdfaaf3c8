use Rattle.std.proofs.Common.{◌≡◌, take}
use Rattle.daxrun.specs.Carried.{names_of}
use Rattle.daxrun.proofs.sessions.names_of.Given as goal

abbrev pub invariant-loop-file : goal.invariant-loop-file
invariant-loop-file l = l.names ≡ names_of (take l.file-index l.files)
