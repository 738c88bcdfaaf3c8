use Rattle.std.proofs.Common.{arith}
use Rattle.std.proofs.lemmas.Grind.{common_steps}
use Rattle.plain_file.proofs.Whole.{new_files_own}
use Rattle.plain_file.proofs.plain.PlainFiles.new.Goals as goal

pub invariant_of-result : goal.invariant_of-result
invariant_of-result c = record {
  few = grind (arith, common_steps);
  counted = grind (arith, common_steps);
  own = rw c.loop-first.invariant (new_files_own c.args.guest _);
}
