use Rattle.std.proofs.Common.{◌≡◌}
use Rattle.fuse_device.proofs.Numbering.{numbered_to}
use Rattle.fuse_device.proofs.listing.number.Given as goal

abbrev pub invariant-loop-i : goal.invariant-loop-i
invariant-loop-i l = l.entries.items ≡ numbered_to 1 l.i l.fn.entries.items
