use Rattle.std.proofs.Common.{◌≡◌, map, take}
use Rattle.fuse_device.specs.State.{new_file}
use Rattle.daemon_core.proofs.daemon.named_files.Given as goal

abbrev pub invariant-loop-name : goal.invariant-loop-name
invariant-loop-name l = l.made.items ≡ map new_file (take l.name-index l.names)
