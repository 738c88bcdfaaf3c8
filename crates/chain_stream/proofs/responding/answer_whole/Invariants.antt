use Rattle.std.proofs.Common.{◌≡◌, ◌≤◌, ◌+◌, length, List, ℕ, Option}
use Rattle.chain_stream.specs.Frames.{limit}
use Rattle.chain_stream.specs.Courses.{Went, after_text, course_from}
use Rattle.chain_stream.proofs.responding.answer_whole.Given as goal

abbrev pub invariant-loop-lead : goal.invariant-loop-lead
invariant-loop-lead g l =
    let says = g.R.Responder.says in
    let taken = g.K.Sink.taken in
    record {
      went : (left : Option (List ℕ)) → Went (after_text l.fn.out.items (course_from (says l.fn.responder) l.fn.pending)) (after_text l.out.items (course_from (says l.responder) l.pending)) left left (taken l.fn.sink) (taken l.sink);
      within : l.pending.at ≤ limit;
      place : l.pending.at + length l.pending.rest ≡ l.fn.pending.at + length l.fn.pending.rest;
      later : g.K.Sink.faults l.fn.sink ≤ g.K.Sink.faults l.sink;
    }

abbrev pub decreases-loop-lead : goal.decreases-loop-lead
decreases-loop-lead g l = length l.pending.rest
