use Rattle.std.proofs.Common.{◌+◌, length, arith}
use Rattle.fuse_codec.specs.Grammar.{write_message}
use Rattle.fuse_codec.proofs.CleanRequests.{written_message, write_is_spelled}
use Rattle.fuse_codec.proofs.RequestLaws.{message_again}
use Rattle.fuse_codec.proofs.encoding.encode_write.Goals as goal

pub returns-clause-clean : goal.returns-clause-clean
returns-clause-clean c = rw (c.from_vec.ensures, c.put_write.ensures.text, c.put-2.ensures.text, c.in_ok-out.ensures.items, c.put.ensures.clean, c.header_with.ensures) (written_message c.args.head.now c.args.write.now c.args.bytes.now _ (omega arith))

pub returns-clause-spelled : goal.returns-clause-spelled
returns-clause-spelled c = rw (returns-clause-clean c) (write_is_spelled c.args.head.now c.args.write.now c.args.bytes.now (80 + length c.args.bytes.now) c.requires.size c.requires.most c.put_write.ensures.fits (rw (← c.header_with.ensures) c.put.ensures.fits))

pub returns-clause-again : goal.returns-clause-again
returns-clause-again c = message_again (write_message c.args.head.now c.args.write.now c.args.bytes.now) c.from_vec.result (returns-clause-spelled c)
