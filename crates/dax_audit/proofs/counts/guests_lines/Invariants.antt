use Rattle.std.proofs.Common.{◌≡◌, ◌≤◌, ◌+◌, ◌-◌, ◌^◌, min, length, drop}
use Rattle.dax_audit.specs.Items.{parts_from, guest_items}
use Rattle.dax_audit.proofs.counts.guests_lines.Given as goal

abbrev pub invariant-loop-part : goal.invariant-loop-part
invariant-loop-part l = (min (l.lines + length (parts_from guest_items l.part-index (drop l.part-index l.guests))) (2 ^ 64 - 1) ≡ min (length (parts_from guest_items 0 l.guests)) (2 ^ 64 - 1)) × (l.lines ≤ 2 ^ 64 - 1)
