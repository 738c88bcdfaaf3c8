use Rattle.std.proofs.Common.{◌≡◌, ◌≤◌, ◌+◌, ◌-◌, length, []}
use Rattle.chain_stream.specs.Frames.{limit}
use Rattle.chain_stream.specs.Courses.{Took, Went, chunk, course_from}
use Rattle.chain_stream.proofs.responding.respond.Given as goal

abbrev pub invariant-loop-status : goal.invariant-loop-status
invariant-loop-status g l =
    let says = g.R.Responder.says in
    let left = g.S.Source.left in
    let taken = g.K.Sink.taken in
    record {
      went : Went (course_from (says l.fn.responder) l.fn.pending) (course_from (says l.responder) l.pending) (left l.fn.source) (left l.source) (taken l.fn.sink) (taken l.sink);
      took : Took l.fn.pending l.pending (left l.fn.source) (left l.source);
      within : l.pending.at ≤ limit;
      empty : l.out.items ≡ [];
      later_reads : g.S.Source.faults l.fn.source ≤ g.S.Source.faults l.source;
      later_writes : g.K.Sink.faults l.fn.sink ≤ g.K.Sink.faults l.sink;
    }

abbrev pub decreases-loop-status : goal.decreases-loop-status
decreases-loop-status g l = limit + chunk + 1 - (l.pending.at + length l.pending.rest)
