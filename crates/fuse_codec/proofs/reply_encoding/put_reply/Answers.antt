use Rattle.fuse_codec.proofs.CleanReplies.{clean_is_spelled}
use Rattle.fuse_codec.proofs.reply_encoding.put_reply.Goals as goal

pub returns-clause-spelled : goal.returns-clause-spelled
returns-clause-spelled c = clean_is_spelled c.args.unique c.args.reply.now c.requires.fits c.put_body.ensures.fits (rw (← c.len.ensures.value, ← c.reply_header-header.ensures) c.put.ensures.fits)
