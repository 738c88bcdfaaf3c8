use Rattle.std.proofs.Common.{◌≢◌, ◌<◌, ℕ, Some}
use Rattle.files_core.specs.Files.{file}
use Rattle.files_core.proofs.files.Files.turn_of.Given as goal

abbrev pub invariant-loop-at : goal.invariant-loop-at
invariant-loop-at l = (f : ℕ) → f < l.at → (file l.self-inside.files.items f).turn ≢ Some l.guest
