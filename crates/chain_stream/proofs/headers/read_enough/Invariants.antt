use Rattle.std.proofs.Common.{◌≡◌, ◌≤◌, ◌+◌, ◌-◌, length}
use Rattle.std.specs.Io.KnownBytes.{Consumes}
use Rattle.chain_stream.specs.Courses.{chunk}
use Rattle.chain_stream.proofs.headers.read_enough.Given as goal

abbrev pub invariant-loop-pending : goal.invariant-loop-pending
invariant-loop-pending g l =
    let left = g.S.Source.left in
    record {
      consumed : Consumes (left l.fn.source) (left l.source) l.pending.rest;
      start : l.pending.at ≡ 0;
      small : length l.pending.rest ≤ 12 + chunk;
      later : g.S.Source.faults l.fn.source ≤ g.S.Source.faults l.source;
    }

abbrev pub decreases-loop-pending : goal.decreases-loop-pending
decreases-loop-pending g l = 12 - length l.pending.rest
