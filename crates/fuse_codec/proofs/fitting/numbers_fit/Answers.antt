use Rattle.fuse_codec.proofs.CleanRequests.{clean_is_spelled}
use Rattle.fuse_codec.proofs.fitting.numbers_fit.Goals as goal

pub returns : goal.returns
returns c = clean_is_spelled c.args.message.now 0 c.requires.bounded c.body_fits.ensures (rw (← c.opcode.ensures, ← c.header_with.ensures) c.put.ensures.fits)
