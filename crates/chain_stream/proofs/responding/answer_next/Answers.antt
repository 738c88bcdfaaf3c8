use Rattle.std.proofs.Common.{arith}
use Rattle.std.proofs.lemmas.Grind.{common_steps}
use Rattle.chain_stream.proofs.Answering.{answers_frame}
use Rattle.chain_stream.proofs.responding.answer_next.Goals as goal

pub returns-clause-answers : goal.returns-clause-answers
returns-clause-answers g c =
    let says = g.R.Responder.says in
    answers_frame (says c.args.responder.now) (says c.answer.new.self) c.args.pending.now c.advance.new.self c.rest-rest.result.now c.split_at.result.0.now c.split_at-2.result.0.now c.min-seen.result c.len-len.result c.args.out.now.items c.answer.new.out.items c.begins-lead.result
    c.rest-rest.ensures (grind (arith, common_steps)) c.split_at.ensures.front c.begins-lead.ensures.value c.len-len.ensures (grind (arith, common_steps)) (grind (arith, common_steps)) c.split_at-2.ensures.front c.advance.ensures c.in_ok-answer.ensures.says
