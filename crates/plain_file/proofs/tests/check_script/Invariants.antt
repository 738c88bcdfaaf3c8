use Rattle.std.proofs.Common.{◌≡◌, ◌<◌, ℕ, true, length}
use Rattle.plain_file.specs.Board.{IsReady}
use Rattle.plain_file.proofs.tests.check_script.Given as goal

abbrev pub invariant-loop-file : goal.invariant-loop-file
invariant-loop-file g l = (l.files.plain ≡ true) × ((i : ℕ) → i < length l.files.files → IsReady l.files i)
