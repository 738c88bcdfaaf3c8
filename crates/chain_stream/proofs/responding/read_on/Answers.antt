use Rattle.std.proofs.Common.{arith, ap, rules, Err}
use Rattle.std.proofs.lemmas.Grind.{common_steps}
use Rattle.chain_stream.proofs.Following.{ends_here, cut_off}
use Rattle.chain_stream.proofs.responding.read_on.Goals as goal

pub returns-in-Ok-eq0-clause-follows : goal.returns-in-Ok-eq0-clause-follows
returns-in-Ok-eq0-clause-follows g c =
    let left = g.S.Source.left in
    let taken = g.K.Sink.taken in
    let bytes = c.in-Ok-eq0.ensures.bytes in
    ends_here (g.R.Responder.says c.args.responder.now) g.R.Responder.ending c.args.pending.now c.fill.new.self c.args.lead c.args.out.now.items bytes.0 (left c.args.source.now) (left c.fill.new.source) (taken c.args.sink.now) (taken c.end_stream.new.sink) (g.S.Source.faults c.args.source.now) (g.S.Source.faults c.fill.new.source) (g.K.Sink.faults c.args.sink.now) (g.K.Sink.faults c.end_stream.new.sink) c.at.result c.open_end.result c.end_stream.result
    c.requires.undecided c.quiet.ensures c.requires.empty bytes.1 bytes.2 (grind (arith, common_steps)) (search rules) c.at.ensures c.open_end.ensures c.end_stream.ensures.writes

pub returns-in-Err-Failed-clause-follows : goal.returns-in-Err-Failed-clause-follows
returns-in-Err-Failed-clause-follows g c =
    let left = g.S.Source.left in
    let bytes = c.in-Err-Failed.ensures.bytes in
    (c.in-Err-Failed.ensures.failed (ap Err c.in-Err-Failed.field-0-is), cut_off (g.R.Responder.says c.args.responder.now) c.args.pending.now c.fill.new.self c.args.lead bytes.0 (left c.args.source.now) (left c.fill.new.source) (g.K.Sink.taken c.args.sink.now) c.requires.undecided c.quiet.ensures bytes.1 bytes.2 c.in-Err-Failed.ensures.none)
