use Rattle.guest_wire.proofs.Judging.{some_answer, read_by_form, decoded_form}
use Rattle.guest_wire.proofs.driver.decode.Goals as goal

pub decode_reply-requires-clause-answered : goal.decode_reply-requires-clause-answered
decode_reply-requires-clause-answered c = some_answer c.args.opcode c.number.result c.number.ensures c.requires.answered

pub returns-clause-read : goal.returns-clause-read
returns-clause-read c = read_by_form c.args.opcode c.number.result c.args.bytes.now c.decode_reply.result c.number.ensures c.decode_reply.ensures.exact

pub returns-clause-form : goal.returns-clause-form
returns-clause-form c = decoded_form c.args.opcode c.number.result c.args.bytes.now c.decode_reply.result c.number.ensures c.decode_reply.ensures.found
