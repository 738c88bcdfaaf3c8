use Rattle.std.proofs.Common.{arith, ap, refl, Err, subst, List, [], ◌++◌, Option, ℕ}
use Rattle.std.specs.Prelude.{IfSome}
use Rattle.chain_stream.specs.declared.frames.End.TheVariants as ends
use Rattle.chain_stream.specs.declared.frames.Reason.TheVariants as reasons
use Rattle.chain_stream.specs.Courses.{Ends, Writes, course_by, course_from, status_of}
use Rattle.chain_stream.specs.Frames.{Frame}
use Rattle.chain_stream.specs.Headers.{IsHeaded}
use Rattle.chain_stream.proofs.CourseLaws.{ends_later, ends_last, took_more}
use Rattle.chain_stream.proofs.HeaderLaws.{headed_went, unheaded_last, waiting_cut_off}
use Rattle.chain_stream.proofs.Bounds.{most_of}
use Rattle.chain_stream.proofs.streams.answer_stream.Goals as goal

pub returns-in-Ok-clause-ends : goal.returns-in-Ok-clause-ends
returns-in-Ok-clause-ends g c =
    let left = g.S.Source.left in
    let taken = g.K.Sink.taken in
    let reads = g.S.Source.faults in
    let writes = g.K.Sink.faults in
    let starting = g.R.Responder.starting in
    let ending = g.R.Responder.ending in
    let p = c.read_header.new.pending in
    let pages = c.in-Ok-Some.pages in
    let headed = subst (λ (o : Option ℕ). IfSome o (IsHeaded (left c.args.source.now) (left c.read_header.new.source) p)) c.in-Ok-Some.field-0-is c.in-Ok-Some.ensures.headed in
    let answered : Ends (course_from (starting pages) p) ending (left c.read_header.new.source) (left c.respond.new.source) (taken c.args.sink.now) (taken c.respond.new.sink) (reads c.read_header.new.source) (reads c.respond.new.source) (writes c.args.sink.now) (writes c.respond.new.sink) c.respond.result =
    subst (λ (says : List Frame → List ℕ). Ends (course_from says p) ending (left c.read_header.new.source) (left c.respond.new.source) (taken c.args.sink.now) (taken c.respond.new.sink) (reads c.read_header.new.source) (reads c.respond.new.source) (writes c.args.sink.now) (writes c.respond.new.sink) c.respond.result) c.in-Ok.ensures c.respond.ensures.ends in
    ends_later (course_by starting) (course_from (starting pages) p) ending (left c.args.source.now) (left c.read_header.new.source) (left c.respond.new.source) (taken c.args.sink.now) (taken c.args.sink.now) (taken c.respond.new.sink)
    (reads c.args.source.now) (reads c.read_header.new.source) (reads c.respond.new.source) (writes c.args.sink.now) (writes c.args.sink.now) (writes c.respond.new.sink) c.respond.result
    (headed_went starting (left c.args.source.now) (left c.read_header.new.source) (taken c.args.sink.now) p pages headed) c.read_header.ensures.later (omega arith) answered

pub returns-in-Ok-clause-most : goal.returns-in-Ok-clause-most
returns-in-Ok-clause-most g c =
    let left = g.S.Source.left in
    most_of _ c.respond.new.pending (left c.args.source.now) (left c.respond.new.source) refl
    (took_more _ c.read_header.new.pending c.respond.new.pending (left c.args.source.now) (left c.read_header.new.source) (left c.respond.new.source) c.read_header.ensures.took c.respond.ensures.took)

pub returns-in-Ok-None-clause-ends : goal.returns-in-Ok-None-clause-ends
returns-in-Ok-None-clause-ends g c =
    let left = g.S.Source.left in
    let taken = g.K.Sink.taken in
    let reads = g.S.Source.faults in
    let writes = g.K.Sink.faults in
    let ending = g.R.Responder.ending in
    let e = ends.Malformed reasons.Header 0 in
    ends_last (course_by g.R.Responder.starting) ending (left c.args.source.now) (left c.read_header.new.source) (taken c.args.sink.now) (taken c.end_stream.new.sink) (reads c.args.source.now) (reads c.read_header.new.source) (writes c.args.sink.now) (writes c.end_stream.new.sink) e [] c.end_stream.result
    (unheaded_last g.R.Responder.starting (left c.args.source.now) (left c.read_header.new.source) c.quiet_at_start.ensures (c.in-Ok-None.ensures.unheaded c.in-Ok-None.field-0-is)) (λ h. absurd cc)
    (subst (λ (text : List ℕ). Writes (text ++ ending e) (status_of e) (taken c.args.sink.now) (taken c.end_stream.new.sink) (writes c.args.sink.now) (writes c.end_stream.new.sink) c.end_stream.result) c.new.ensures.items c.end_stream.ensures.writes)

pub returns-clause-ends : goal.returns-clause-ends
returns-clause-ends g c =
    let left = g.S.Source.left in
    (c.in-Err-Failed.ensures.failed (ap Err c.in-Err-Failed.field-0-is), waiting_cut_off g.R.Responder.starting (left c.args.source.now) (left c.read_header.new.source) (g.K.Sink.taken c.args.sink.now) c.quiet_at_start.ensures c.in-Err-Failed.ensures.waiting)
