-- Reads, writes and looks at the size never lower a file's size, so every board lets them through.
use Rattle.std.proofs.Common.{◌≡◌, ◌≤◌, ℕ, true, List, [], ◌∷◌, length, arith}
use Rattle.std.proofs.lemmas.Grind.{common_steps}
use Rattle.plain_file.specs.declared.operations.Op.TheVariants as ops
use Rattle.plain_file.specs.File.{after, written}
use Rattle.plain_file.specs.Board.{BoardView, file_may_apply, may_apply}

pub written-length : (b : List ℕ) (off : ℕ) (bytes : List ℕ) → length b ≤ length (written b off bytes)
written-length b off [] = omega arith
written-length b off (x ∷ xs) = grind (arith, common_steps)

pub may_apply-read : (v : BoardView) (file off len : ℕ) → may_apply v file (ops.Read off len) ≡ true
unfolding file_may_apply after
may_apply-read v file off len = grind (arith, common_steps)

pub may_apply-write : (v : BoardView) (file off : ℕ) (bytes : List ℕ) → may_apply v file (ops.Write off bytes) ≡ true
unfolding file_may_apply after
may_apply-write v file off bytes = grind (arith, common_steps, written-length)

pub may_apply_size : (v : BoardView) (file : ℕ) → may_apply v file ops.Size ≡ true
unfolding file_may_apply after
may_apply_size v file = grind (arith, common_steps)
