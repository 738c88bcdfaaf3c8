use Rattle.std.proofs.Common.{ap, Err}
use Rattle.daxwire.proofs.WholeRuns.{written_within, written_above, finished, write_fault, complete, rose}
use Rattle.daxwire.proofs.wholes.answer_whole.Goals as goal

pub returns-in-Ok-clause-finished : goal.returns-in-Ok-clause-finished
returns-in-Ok-clause-finished g c = finished g.A.Answer.due _ _ _ _ _ c.answer_within.result (written_within g.A.Answer.due (g.S.Source.left c.args.source.now) (g.K.Sink.taken c.args.sink.now) (g.K.Sink.taken c.answer_within.new.sink) (g.K.Sink.faults c.args.sink.now) (g.K.Sink.faults c.answer_within.new.sink) c.answer_within.result c.in-Ok.input c.in-Ok.ensures.all c.in-Ok.ensures.short c.answer_within.ensures.written)

pub returns-in-Ok-clause-write_fault : goal.returns-in-Ok-clause-write_fault
returns-in-Ok-clause-write_fault g c = λ is. (rose _ _ _ _ _ c.answer_within.result is c.answer_within.ensures.written, write_fault g.A.Answer.due _ _ _ (g.K.Sink.faults c.args.sink.now) (g.K.Sink.faults c.answer_within.new.sink) c.answer_within.result is (written_within g.A.Answer.due (g.S.Source.left c.args.source.now) (g.K.Sink.taken c.args.sink.now) (g.K.Sink.taken c.answer_within.new.sink) (g.K.Sink.faults c.args.sink.now) (g.K.Sink.faults c.answer_within.new.sink) c.answer_within.result c.in-Ok.input c.in-Ok.ensures.all c.in-Ok.ensures.short c.answer_within.ensures.written))

pub returns-in-Ok-clause-complete : goal.returns-in-Ok-clause-complete
returns-in-Ok-clause-complete g c = λ input told ok no_read no_write. complete g.A.Answer.due _ _ _ _ _ c.answer_within.result input (written_within g.A.Answer.due (g.S.Source.left c.args.source.now) (g.K.Sink.taken c.args.sink.now) (g.K.Sink.taken c.answer_within.new.sink) (g.K.Sink.faults c.args.sink.now) (g.K.Sink.faults c.answer_within.new.sink) c.answer_within.result c.in-Ok.input c.in-Ok.ensures.all c.in-Ok.ensures.short c.answer_within.ensures.written) told ok no_write

pub returns-in-Err-TooLong-clause-finished : goal.returns-in-Err-TooLong-clause-finished
returns-in-Err-TooLong-clause-finished g c = finished g.A.Answer.due _ _ _ _ _ c.write_text.result (written_above g.A.Answer.due (g.S.Source.left c.args.source.now) (g.K.Sink.taken c.args.sink.now) (g.K.Sink.taken c.write_text.new.sink) (g.K.Sink.faults c.args.sink.now) (g.K.Sink.faults c.write_text.new.sink) c.write_text.result (c.in-Err-TooLong.ensures.too_long (ap Err c.in-Err-TooLong.field-0-is)) c.write_text.ensures.written)

pub returns-in-Err-TooLong-clause-write_fault : goal.returns-in-Err-TooLong-clause-write_fault
returns-in-Err-TooLong-clause-write_fault g c = λ is. (rose _ _ _ _ _ c.write_text.result is c.write_text.ensures.written, write_fault g.A.Answer.due _ _ _ (g.K.Sink.faults c.args.sink.now) (g.K.Sink.faults c.write_text.new.sink) c.write_text.result is (written_above g.A.Answer.due (g.S.Source.left c.args.source.now) (g.K.Sink.taken c.args.sink.now) (g.K.Sink.taken c.write_text.new.sink) (g.K.Sink.faults c.args.sink.now) (g.K.Sink.faults c.write_text.new.sink) c.write_text.result (c.in-Err-TooLong.ensures.too_long (ap Err c.in-Err-TooLong.field-0-is)) c.write_text.ensures.written))

pub returns-in-Err-TooLong-clause-complete : goal.returns-in-Err-TooLong-clause-complete
returns-in-Err-TooLong-clause-complete g c = λ input told ok no_read no_write. complete g.A.Answer.due _ _ _ _ _ c.write_text.result input (written_above g.A.Answer.due (g.S.Source.left c.args.source.now) (g.K.Sink.taken c.args.sink.now) (g.K.Sink.taken c.write_text.new.sink) (g.K.Sink.faults c.args.sink.now) (g.K.Sink.faults c.write_text.new.sink) c.write_text.result (c.in-Err-TooLong.ensures.too_long (ap Err c.in-Err-TooLong.field-0-is)) c.write_text.ensures.written) told ok no_write
