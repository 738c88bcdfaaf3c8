use Rattle.std.proofs.Common.{arith, sym, ap, ◌∙◌, length, subst, ℕ, List}
use Rattle.std.specs.declared.ops.ControlFlow.{ControlFlow}
use Rattle.std.specs.declared.ops.ControlFlow.TheVariants.{Break, Continue}
use Rattle.program_io.specs.declared.statuses.Status.{Status}
use Rattle.chain_stream.specs.declared.frames.Lead.{Lead}
use Rattle.chain_stream.specs.Courses.{Follows, Went, after_text, course_from}
use Rattle.chain_stream.proofs.CourseLaws.{ends_later, follows_first, went_more}
use Rattle.chain_stream.proofs.Following.{ends_bad, ends_long, open_lead}
use Rattle.chain_stream.proofs.responding.flush.Goals as goal

pub returns-in_err-lead-clause-follows : goal.returns-in_err-lead-clause-follows
returns-in_err-lead-clause-follows g c = λ left reads.
    let says = g.R.Responder.says in
    let ending = g.R.Responder.ending in
    let taken = g.K.Sink.taken in
    let faults = g.K.Sink.faults in
    let course = course_from (says c.args.responder.now) c.args.pending.now in
    let last = course_from (says c.answer_whole.new.responder) c.answer_whole.new.pending in
    subst (λ (r : ControlFlow Status Lead). Follows course last ending left left (taken c.args.sink.now) (taken c.answer_whole.new.sink) reads reads (faults c.args.sink.now) (faults c.answer_whole.new.sink) r) (sym c.from_residual.ensures)
    (subst (λ (t : List ℕ). Follows {C = Lead} (after_text t course) last ending left left (taken c.args.sink.now) (taken c.answer_whole.new.sink) reads reads (faults c.args.sink.now) (faults c.answer_whole.new.sink) (Break c.in_err-lead.field-0.0)) c.requires.empty (c.in_err-lead.ensures.follows left reads))

pub returns-in-Bad-clause-follows : goal.returns-in-Bad-clause-follows
returns-in-Bad-clause-follows g c = λ left reads.
    let says = g.R.Responder.says in
    let ending = g.R.Responder.ending in
    let taken = g.K.Sink.taken in
    let faults = g.K.Sink.faults in
    let course = course_from (says c.args.responder.now) c.args.pending.now in
    let next = after_text c.answer_whole.new.out.items (course_from (says c.answer_whole.new.responder) c.answer_whole.new.pending) in
    ends_later course next ending left left left (taken c.args.sink.now) (taken c.answer_whole.new.sink) (taken c.end_stream.new.sink) reads reads reads (faults c.args.sink.now) (faults c.answer_whole.new.sink) (faults c.end_stream.new.sink) c.end_stream.result
    (follows_first course next ending c.args.out.now.items left left (taken c.args.sink.now) (taken c.answer_whole.new.sink) reads reads (faults c.args.sink.now) (faults c.answer_whole.new.sink) (Continue c.in_ok-lead.lead) c.requires.empty (c.in_ok-lead.ensures.follows left reads))
    (omega arith) c.answer_whole.ensures.later
    (ends_bad (says c.answer_whole.new.responder) ending c.answer_whole.new.pending c.answer_whole.new.out.items left (taken c.answer_whole.new.sink) (taken c.end_stream.new.sink) reads (faults c.answer_whole.new.sink) (faults c.end_stream.new.sink) c.at-at.result c.in-Bad.reason c.end_stream.result
    c.quiet.ensures c.at-at.ensures (sym c.in-Bad.is ∙ c.in_ok-lead.ensures.lead) c.end_stream.ensures.writes)

pub returns-then-at-rest-gt-LIMIT : goal.returns-then-at-rest-gt-LIMIT
returns-then-at-rest-gt-LIMIT g c =
    let says = g.R.Responder.says in
    let ending = g.R.Responder.ending in
    let taken = g.K.Sink.taken in
    let faults = g.K.Sink.faults in
    let course = course_from (says c.args.responder.now) c.args.pending.now in
    let next = after_text c.answer_whole.new.out.items (course_from (says c.answer_whole.new.responder) c.answer_whole.new.pending) in
    let sink = c.end_stream-then-at-rest-gt-LIMIT.new.sink in
    let status = c.end_stream-then-at-rest-gt-LIMIT.result in
    record {
      follows = λ left reads.
          ends_later course next ending left left left (taken c.args.sink.now) (taken c.answer_whole.new.sink) (taken sink) reads reads reads (faults c.args.sink.now) (faults c.answer_whole.new.sink) (faults sink) status
          (follows_first course next ending c.args.out.now.items left left (taken c.args.sink.now) (taken c.answer_whole.new.sink) reads reads (faults c.args.sink.now) (faults c.answer_whole.new.sink) (Continue c.in_ok-lead.lead) c.requires.empty (c.in_ok-lead.ensures.follows left reads))
          (omega arith) c.answer_whole.ensures.later
          (ends_long (says c.answer_whole.new.responder) ending c.answer_whole.new.pending c.answer_whole.new.out.items left (taken c.answer_whole.new.sink) (taken sink) reads (faults c.answer_whole.new.sink) (faults sink) c.in_ok-lead.lead status
          c.quiet.ensures c.answer_whole.ensures.within (omega (arith, c.if-at-rest-gt-LIMIT.true, c.at-at.ensures, ap length c.rest.ensures)) c.in_ok-lead.ensures.lead (open_lead c.in_ok-lead.lead c.in_ok-lead.ensures.none c.in_default.not-Bad) c.end_stream-then-at-rest-gt-LIMIT.ensures.writes);
      undecided = tt;
      empty = tt;
      place = c.answer_whole.ensures.place;
      later = omega (arith, c.answer_whole.ensures.later, c.end_stream-then-at-rest-gt-LIMIT.ensures.later);
    }

pub returns-in_err-write_due : goal.returns-in_err-write_due
returns-in_err-write_due g c =
    let says = g.R.Responder.says in
    let ending = g.R.Responder.ending in
    let taken = g.K.Sink.taken in
    let faults = g.K.Sink.faults in
    let course = course_from (says c.args.responder.now) c.args.pending.now in
    let answered = course_from (says c.answer_whole.new.responder) c.answer_whole.new.pending in
    let next = after_text c.answer_whole.new.out.items answered in
    let status = c.in_err-write_due.field-0.0 in
    rw c.from_residual-in_err-write_due.ensures (record {
      follows = λ left reads.
          ends_later course next ending left left left (taken c.args.sink.now) (taken c.answer_whole.new.sink) (taken c.write_due.new.sink) reads reads reads (faults c.args.sink.now) (faults c.answer_whole.new.sink) (faults c.write_due.new.sink) status
          (follows_first course next ending c.args.out.now.items left left (taken c.args.sink.now) (taken c.answer_whole.new.sink) reads reads (faults c.args.sink.now) (faults c.answer_whole.new.sink) (Continue c.in_ok-lead.lead) c.requires.empty (c.in_ok-lead.ensures.follows left reads))
          (omega arith) c.answer_whole.ensures.later (c.in_err-write_due.ensures.follows answered ending left reads);
      undecided = tt;
      empty = tt;
      place = c.answer_whole.ensures.place;
      later = omega (arith, c.answer_whole.ensures.later, c.write_due.ensures.later);
    })

pub returns : goal.returns
returns g c =
    let says = g.R.Responder.says in
    let ending = g.R.Responder.ending in
    let taken = g.K.Sink.taken in
    let faults = g.K.Sink.faults in
    let course = course_from (says c.args.responder.now) c.args.pending.now in
    let answered = course_from (says c.answer_whole.new.responder) c.answer_whole.new.pending in
    let next = after_text c.answer_whole.new.out.items answered in
    record {
      follows = λ left reads.
          went_more course next answered left left left (taken c.args.sink.now) (taken c.answer_whole.new.sink) (taken c.write_due.new.sink)
          (follows_first course next ending c.args.out.now.items left left (taken c.args.sink.now) (taken c.answer_whole.new.sink) reads reads (faults c.args.sink.now) (faults c.answer_whole.new.sink) (Continue c.in_ok-lead.lead) c.requires.empty (c.in_ok-lead.ensures.follows left reads))
          (subst (λ (t : List ℕ). Went next (after_text t answered) left left (taken c.answer_whole.new.sink) (taken c.write_due.new.sink)) c.in_ok-write_due.ensures.empty (c.in_ok-write_due.ensures.follows answered ending left reads));
      undecided = record { lead_is = c.in_ok-lead.ensures.lead; undecided = open_lead c.in_ok-lead.lead c.in_ok-lead.ensures.none c.in_default.not-Bad; within = omega (arith, c.if-at-rest-gt-LIMIT.false, c.at-at.ensures, ap length c.rest.ensures) };
      empty = c.in_ok-write_due.ensures.empty;
      place = c.answer_whole.ensures.place;
      later = omega (arith, c.answer_whole.ensures.later, c.write_due.ensures.later);
    }
