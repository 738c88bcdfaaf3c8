use Rattle.std.proofs.Common.{◌≡◌, ◌≤◌, ◌-◌, ◌++◌, take, drop}
use Rattle.fuse_codec.specs.Dirents.{dirents_len, fitting}
use Rattle.fuse_codec.proofs.dirents.fitting.Given as goal

abbrev pub invariant-loop-one : goal.invariant-loop-one
invariant-loop-one l = record {
  count : l.count ≡ l.one-index;
  within : l.used ≤ l.size;
  len : l.used ≡ dirents_len (take l.one-index l.names);
  so_far : take l.one-index l.names ++ fitting (l.size - l.used) (drop l.one-index l.names) ≡ fitting l.size l.names;
}
