use Rattle.std.proofs.Common.{◌≡◌, take, map}
use Rattle.dax_script.specs.declared.scripts.FileLine.{FileLine}
use Rattle.daxrun.proofs.sessions.firsts_of.Given as goal

abbrev pub invariant-loop-file : goal.invariant-loop-file
invariant-loop-file l = l.firsts.items ≡ map (λ (f : FileLine). f.first) (take l.file-index l.files)
