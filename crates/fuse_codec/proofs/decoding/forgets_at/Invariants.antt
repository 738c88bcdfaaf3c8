use Rattle.std.proofs.Common.{◌≡◌, ◌*◌, ◌-◌, ◌++◌, length}
use Rattle.fuse_wire.specs.Forgets.{forget_one_at}
use Rattle.fuse_codec.specs.Reading.{records_at}
use Rattle.fuse_codec.proofs.decoding.forgets_at.Given as goal

abbrev pub invariant-loop : goal.invariant-loop
invariant-loop l = record {
  length : length l.rest ≡ 16 * (l.count - l.counter);
  so_far : l.ones.items ++ records_at forget_one_at (l.count - l.counter) l.rest ≡ records_at forget_one_at l.count l.bytes;
}
