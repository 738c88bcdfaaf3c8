use Rattle.std.proofs.Common.{◌≡◌, ◌*◌, ◌^◌, ◌<◌, ◌≤◌}
use Rattle.vring.specs.Pieces.{total}
use Rattle.vring.specs.Parts.{parts_of}
use Rattle.vring.proofs.Steps.{Follows}
use Rattle.vring.proofs.walks.follow.Given as goal

abbrev pub invariant-walk : goal.invariant-walk
invariant-walk l = record {
  index : l.index < l.layout.size;
  head : l.chain.head ≡ l.head;
  follows : Follows l.mem l.layout l.head l.index (parts_of l.chain) l._count;
  readable : total l.chain.readable ≤ l._count * 2 ^ 32;
  writable : total l.chain.writable ≤ l._count * 2 ^ 32;
}
