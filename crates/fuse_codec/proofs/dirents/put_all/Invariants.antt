use Rattle.std.proofs.Common.{◌≡◌, ◌+◌, ◌≤◌, length, take, drop, vec_capacity}
use Rattle.fuse_codec.specs.Dirents.{SpellDirents, clean_dirents, dirents_len}
use Rattle.fuse_codec.proofs.dirents.put_all.Given as goal

abbrev pub invariant-loop-one : goal.invariant-loop-one
invariant-loop-one l = record {
  text : l.out.items ≡ clean_dirents (take l.one-index l.names);
  spelled : SpellDirents (take l.one-index l.names) l.out.items;
  room : length l.out.items + dirents_len (drop l.one-index l.names) ≤ vec_capacity l.out;
}
