use Rattle.std.proofs.Common.{◌≡◌, ◌≤◌, ◌+◌, ◌-◌, ◌^◌, min, length, drop}
use Rattle.dax_audit.specs.Items.{parts_from, file_items}
use Rattle.dax_audit.proofs.counts.files_lines.Given as goal

abbrev pub invariant-loop-part : goal.invariant-loop-part
invariant-loop-part l = (min (l.lines + length (parts_from file_items l.part-index (drop l.part-index l.files))) (2 ^ 64 - 1) ≡ min (length (parts_from file_items 0 l.files)) (2 ^ 64 - 1)) × (l.lines ≤ 2 ^ 64 - 1)
