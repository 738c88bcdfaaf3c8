use Rattle.fuse_codec.proofs.CleanRequests.{message_text}
use Rattle.fuse_codec.proofs.encoding.put_request.Goals as goal

pub returns-clause-ok : goal.returns-clause-ok
returns-clause-ok c = rw (c.put_body.ensures.text, c.put-2.ensures.text, c.reserve.ensures.items, c.put.ensures.clean, c.header_with-header.ensures, c.opcode.ensures) (message_text c.args.out.now.items c.args.message.now c.body_len-len.result c.body_len-len.ensures.value)
