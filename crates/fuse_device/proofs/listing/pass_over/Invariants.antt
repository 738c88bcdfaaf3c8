use Rattle.std.proofs.Common.{◌≡◌, drop}
use Rattle.fuse_device.proofs.listing.pass_over.Given as goal

abbrev pub invariant-loop-left : goal.invariant-loop-left
invariant-loop-left l = drop l.left l.entries.items ≡ drop l.fn.count l.fn.entries.items

abbrev pub decreases-loop-left : goal.decreases-loop-left
decreases-loop-left l = l.left
