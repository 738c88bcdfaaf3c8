use Rattle.std.proofs.Common.{◌≡◌, take}
use Rattle.std.specs.List.{sum_by}
use Rattle.files_core.specs.Files.{leases_of}
use Rattle.files_core.proofs.core_file.CoreFile.is_leased.Given as goal

abbrev pub invariant-loop-row : goal.invariant-loop-row
invariant-loop-row l = sum_by leases_of (take l.row-index l.self.rows) ≡ 0
