use Rattle.std.proofs.Common.{◌≡◌, map, take}
use Rattle.files_core.specs.Files.{new_file}
use Rattle.files_core.proofs.files.Files.new.Given as goal

abbrev pub invariant-loop-first : goal.invariant-loop-first
invariant-loop-first l = l.files.items ≡ map (new_file l.guests) (take l.first-index l.firsts)
