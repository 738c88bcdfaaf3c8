use Rattle.fuse_codec.specs.Opcodes.{reply_form}
use Rattle.guest_wire.proofs.driver.hear.Goals as goal

pub returns-clause-form : goal.returns-clause-form
returns-clause-form c = c.judge.ensures.form (reply_form c.args.request.now.opcode) c.decode-decoded.ensures.form
