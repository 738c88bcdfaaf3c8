use Rattle.std.proofs.Common.{◌≡◌}
use Rattle.fuse_device.proofs.Unlooks.{unlooked_to}
use Rattle.fuse_device.proofs.tables.unlook.Given as goal

abbrev pub invariant-loop-i : goal.invariant-loop-i
invariant-loop-i l = l.made.items ≡ unlooked_to l.i l.fn.made.items
