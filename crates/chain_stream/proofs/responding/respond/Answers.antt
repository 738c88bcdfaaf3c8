use Rattle.std.proofs.Common.{arith}
use Rattle.chain_stream.specs.Courses.{course_from}
use Rattle.chain_stream.proofs.CourseLaws.{ends_later, went_more, took_more}
use Rattle.chain_stream.proofs.responding.respond.Goals as goal

pub returns-in-Break-clause-ends : goal.returns-in-Break-clause-ends
returns-in-Break-clause-ends g c =
    let says = g.R.Responder.says in
    let left = g.S.Source.left in
    let taken = g.K.Sink.taken in
    let reads = g.S.Source.faults in
    let writes = g.K.Sink.faults in
    ends_later (course_from (says c.args.responder.now) c.args.pending.now) (course_from (says c.loop-status.responder) c.loop-status.pending) g.R.Responder.ending
    (left c.args.source.now) (left c.loop-status.source) (left c.turn.new.source) (taken c.args.sink.now) (taken c.loop-status.sink) (taken c.turn.new.sink)
    (reads c.args.source.now) (reads c.loop-status.source) (reads c.turn.new.source) (writes c.args.sink.now) (writes c.loop-status.sink) (writes c.turn.new.sink) c.in-Break.status
    c.loop-status.invariant.went c.loop-status.invariant.later_reads c.loop-status.invariant.later_writes c.in-Break.ensures.follows

pub returns-in-Break-clause-took : goal.returns-in-Break-clause-took
returns-in-Break-clause-took g c =
    let left = g.S.Source.left in
    took_more c.args.pending.now c.loop-status.pending c.turn.new.pending (left c.args.source.now) (left c.loop-status.source) (left c.turn.new.source) c.loop-status.invariant.took c.turn.ensures.took

pub loop-status-preserved : goal.loop-status-preserved
loop-status-preserved g c =
    let says = g.R.Responder.says in
    let left = g.S.Source.left in
    let taken = g.K.Sink.taken in
    let before = c.loop-status.invariant in
    record {
      went = went_more (course_from (says c.args.responder.now) c.args.pending.now) (course_from (says c.loop-status.responder) c.loop-status.pending) (course_from (says c.turn.new.responder) c.turn.new.pending)
          (left c.args.source.now) (left c.loop-status.source) (left c.turn.new.source) (taken c.args.sink.now) (taken c.loop-status.sink) (taken c.turn.new.sink) before.went c.in_default.ensures.follows;
      took = took_more c.args.pending.now c.loop-status.pending c.turn.new.pending (left c.args.source.now) (left c.loop-status.source) (left c.turn.new.source) before.took c.turn.ensures.took;
      within = c.in_default.ensures.within;
      empty = c.in_default.ensures.empty;
      later_reads = omega (arith, before.later_reads, c.turn.ensures.later_reads);
      later_writes = omega (arith, before.later_writes, c.turn.ensures.later_writes);
    }
