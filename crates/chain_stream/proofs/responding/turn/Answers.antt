use Rattle.std.proofs.Common.{arith, sym, subst}
use Rattle.std.specs.declared.ops.ControlFlow.{ControlFlow}
use Rattle.program_io.specs.declared.statuses.Status.{Status}
use Rattle.chain_stream.specs.Courses.{Follows, course_from}
use Rattle.chain_stream.proofs.CourseLaws.{follows_more}
use Rattle.chain_stream.proofs.responding.turn.Goals as goal

pub returns-in_err-lead-clause-follows : goal.returns-in_err-lead-clause-follows
returns-in_err-lead-clause-follows g c =
    let says = g.R.Responder.says in
    let left = g.S.Source.left c.args.source.now in
    let reads = g.S.Source.faults c.args.source.now in
    let taken = g.K.Sink.taken in
    let writes = g.K.Sink.faults in
    subst (λ (r : ControlFlow Status (Unit {0})). Follows (course_from (says c.args.responder.now) c.args.pending.now) (course_from (says c.flush.new.responder) c.flush.new.pending) g.R.Responder.ending left left (taken c.args.sink.now) (taken c.flush.new.sink) reads reads (writes c.args.sink.now) (writes c.flush.new.sink) r) (sym c.from_residual.ensures)
    (c.in_err-lead.ensures.follows left reads)

pub returns-clause-follows : goal.returns-clause-follows
returns-clause-follows g c =
    let says = g.R.Responder.says in
    let left = g.S.Source.left in
    let reads = g.S.Source.faults in
    let taken = g.K.Sink.taken in
    let writes = g.K.Sink.faults in
    follows_more (course_from (says c.args.responder.now) c.args.pending.now) (course_from (says c.flush.new.responder) c.flush.new.pending) (course_from (says c.flush.new.responder) c.read_on.new.pending) g.R.Responder.ending
    (left c.args.source.now) (left c.args.source.now) (left c.read_on.new.source) (taken c.args.sink.now) (taken c.flush.new.sink) (taken c.read_on.new.sink)
    (reads c.args.source.now) (reads c.args.source.now) (reads c.read_on.new.source) (writes c.args.sink.now) (writes c.flush.new.sink) (writes c.read_on.new.sink) c.read_on.result
    (c.in_ok-lead.ensures.follows (left c.args.source.now) (reads c.args.source.now)) (omega arith) c.flush.ensures.later c.read_on.ensures.follows
