use Rattle.std.proofs.Common.{◌≡◌, ◌≤◌, ◌+◌, ◌*◌, ◌++◌, drop, length}
use Rattle.std.specs.Prelude.{vec_len, vec_capacity}
use Rattle.std.specs.List.{flat_map}
use Rattle.fuse_wire.specs.Layout.{clean}
use Rattle.fuse_wire.specs.Forgets.{forget_one}
use Rattle.fuse_codec.proofs.encoding.put_forgets.Given as goal

abbrev pub invariant-loop-one : goal.invariant-loop-one
invariant-loop-one l = record {
  text : l.out.items ++ clean (flat_map forget_one (drop l.one-index l.ones)) ≡ l.fn.out.items ++ clean (flat_map forget_one l.ones);
  len : vec_len l.out ≡ vec_len l.fn.out + 16 * l.one-index;
  room : vec_len l.fn.out + 16 * length l.ones ≤ vec_capacity l.out;
}
