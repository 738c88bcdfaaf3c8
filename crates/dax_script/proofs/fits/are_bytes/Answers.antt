use Rattle.std.proofs.Common.{sym}
use Rattle.dax_script.proofs.HoldRoom.{below_256}
use Rattle.dax_script.proofs.fits.are_bytes.Goals as goal

pub returns : goal.returns
returns c = sym (below_256 c.args.bytes.now c.type_inv.bytes)
