use Rattle.std.proofs.Common.{◌≡◌, replicate}
use Rattle.files_core.specs.Files.{blank}
use Rattle.files_core.proofs.core_file.new_rows.Given as goal

abbrev pub invariant-loop-guest : goal.invariant-loop-guest
invariant-loop-guest l = l.rows.items ≡ replicate l._guest blank
