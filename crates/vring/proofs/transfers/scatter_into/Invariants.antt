use Rattle.std.proofs.Common.{◌≡◌, length, drop}
use Rattle.vring.specs.Pieces.{scattered}
use Rattle.vring.proofs.transfers.scatter_into.Given as goal

abbrev pub invariant-loop-piece : goal.invariant-loop-piece
invariant-loop-piece l = record {
  len : length l.mem ≡ length l.fn.mem;
  value : scattered l.mem (drop l.piece-index l.pieces) l.rest ≡ scattered l.fn.mem l.pieces l.bytes;
}
