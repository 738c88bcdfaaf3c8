use Rattle.std.proofs.Common.{arith, sym, subst}
use Rattle.std.proofs.lemmas.Grind.{common_steps}
use Rattle.std.specs.declared.ops.ControlFlow.{ControlFlow}
use Rattle.program_io.specs.declared.statuses.Status.{Status}
use Rattle.program_io.specs.declared.statuses.Status.TheVariants as statuses
use Rattle.chain_stream.specs.declared.frames.Lead.{Lead}
use Rattle.chain_stream.specs.Courses.{Follows, after_text, course_from}
use Rattle.chain_stream.proofs.Answering.{went_answered}
use Rattle.chain_stream.proofs.CourseLaws.{ends_later, follows_more, starved, went_more}
use Rattle.chain_stream.proofs.responding.answer_whole.Goals as goal

pub returns-in_default-clause-follows : goal.returns-in_default-clause-follows
returns-in_default-clause-follows g c = λ left reads.
    let says = g.R.Responder.says in
    let before = g.K.Sink.taken c.args.sink.now in
    let now = g.K.Sink.taken c.loop-lead.sink in
    let faults = g.K.Sink.faults in
    let first = after_text c.args.out.now.items (course_from (says c.args.responder.now) c.args.pending.now) in
    let next = after_text c.loop-lead.out.items (course_from (says c.loop-lead.responder) c.loop-lead.pending) in
    ends_later first next g.R.Responder.ending left left left before now now reads reads reads (faults c.args.sink.now) (faults c.loop-lead.sink) (faults c.loop-lead.sink) statuses.Memory
    (c.loop-lead.invariant.went left) (omega arith) c.loop-lead.invariant.later (starved next g.R.Responder.ending left now reads (faults c.loop-lead.sink))

pub returns-then-len-eq0-clause-follows : goal.returns-then-len-eq0-clause-follows
returns-then-len-eq0-clause-follows g c = λ left reads.
    let says = g.R.Responder.says in
    let before = g.K.Sink.taken c.args.sink.now in
    let now = g.K.Sink.taken c.loop-lead.sink in
    went_more (after_text c.args.out.now.items (course_from (says c.args.responder.now) c.args.pending.now)) (after_text c.loop-lead.out.items (course_from (says c.loop-lead.responder) c.loop-lead.pending)) (after_text c.answer_next.new.out.items (course_from (says c.answer_next.new.responder) c.answer_next.new.pending))
    left left left before now now (c.loop-lead.invariant.went left)
    (went_answered (says c.loop-lead.responder) (says c.answer_next.new.responder) c.loop-lead.pending c.answer_next.new.pending c.loop-lead.out.items c.answer_next.new.out.items left now c.in-Ok.ensures.answers)

pub loop-lead-preserved : goal.loop-lead-preserved
loop-lead-preserved g c =
    let says = g.R.Responder.says in
    let before = g.K.Sink.taken c.args.sink.now in
    let now = g.K.Sink.taken c.loop-lead.sink in
    let after = g.K.Sink.taken c.write_much.new.sink in
    let first = after_text c.args.out.now.items (course_from (says c.args.responder.now) c.args.pending.now) in
    let course = course_from (says c.answer_next.new.responder) c.answer_next.new.pending in
    let next = after_text c.answer_next.new.out.items course in
    record {
      went = λ left.
          went_more first next (after_text c.write_much.new.out.items course) left left left before now after
          (went_more first (after_text c.loop-lead.out.items (course_from (says c.loop-lead.responder) c.loop-lead.pending)) next left left left before now now (c.loop-lead.invariant.went left)
          (went_answered (says c.loop-lead.responder) (says c.answer_next.new.responder) c.loop-lead.pending c.answer_next.new.pending c.loop-lead.out.items c.answer_next.new.out.items left now c.in-Ok.ensures.answers))
          (c.in_ok-write_much.ensures.follows course g.R.Responder.ending left 0);
      within = c.answer_next.ensures.within;
      place = grind (arith, common_steps);
      later = omega (arith, c.loop-lead.invariant.later, c.write_much.ensures.later);
    }

pub returns-in_err-write_much-clause-follows : goal.returns-in_err-write_much-clause-follows
returns-in_err-write_much-clause-follows g c = λ left reads.
    let says = g.R.Responder.says in
    let ending = g.R.Responder.ending in
    let before = g.K.Sink.taken c.args.sink.now in
    let now = g.K.Sink.taken c.loop-lead.sink in
    let after = g.K.Sink.taken c.write_much.new.sink in
    let faults = g.K.Sink.faults in
    let first = after_text c.args.out.now.items (course_from (says c.args.responder.now) c.args.pending.now) in
    let course = course_from (says c.answer_next.new.responder) c.answer_next.new.pending in
    let next = after_text c.answer_next.new.out.items course in
    let last = after_text c.write_much.new.out.items course in
    follows_more first next last ending left left left before now after reads reads reads (faults c.args.sink.now) (faults c.loop-lead.sink) (faults c.write_much.new.sink) c.from_residual.result
    (went_more first (after_text c.loop-lead.out.items (course_from (says c.loop-lead.responder) c.loop-lead.pending)) next left left left before now now (c.loop-lead.invariant.went left)
    (went_answered (says c.loop-lead.responder) (says c.answer_next.new.responder) c.loop-lead.pending c.answer_next.new.pending c.loop-lead.out.items c.answer_next.new.out.items left now c.in-Ok.ensures.answers))
    (omega arith) c.loop-lead.invariant.later
    (subst (λ (r : ControlFlow Status Lead). Follows next last ending left left now after reads reads (faults c.loop-lead.sink) (faults c.write_much.new.sink) r) (sym c.from_residual.ensures) (c.in_err-write_much.ensures.follows course ending left reads))
