use Rattle.std.proofs.Common.{arith, subst, Ok}
use Rattle.fuse_codec.specs.ReplyReading.{GivesReply}
use Rattle.fuse_codec.proofs.ReplyLaws.{answer_found, answer_again, memory_alone}
use Rattle.fuse_codec.proofs.reply_decoding.decode_reply.Goals as goal

pub returns-clause-found : goal.returns-clause-found
returns-clause-found c = answer_found c.args.opcode c.args.bytes.now c.reply_of.result (λ i. omega (arith, c.type_inv.bytes i)) (c.unwrap-form.result, cc, c.reply_of.ensures)

pub returns-clause-only : goal.returns-clause-only
returns-clause-only c = answer_again c.args.opcode c.args.bytes.now c.reply_of.result (c.unwrap-form.result, cc, c.reply_of.ensures)

pub returns-clause-none : goal.returns-clause-none
returns-clause-none c = λ unique reply e is s. memory_alone unique reply e (subst (λ r. GivesReply r (Ok (unique, reply))) is (returns-clause-only c unique reply s))
