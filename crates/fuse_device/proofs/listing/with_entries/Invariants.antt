use Rattle.std.proofs.Common.{◌≡◌, ◌+◌, ◌≤◌, [], length}
use Rattle.fuse_device.specs.Entries.{with_entries}
use Rattle.fuse_device.proofs.listing.with_entries.Given as goal

abbrev pub invariant-loop-file : goal.invariant-loop-file
invariant-loop-file l = record {
  entries : with_entries l.entries.items l.node l.rest ≡ with_entries [] 2 l.made;
  small : l.node + length l.rest ≤ 18;
}

abbrev pub decreases-loop-file : goal.decreases-loop-file
decreases-loop-file l = length l.rest
