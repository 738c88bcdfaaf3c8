use Rattle.fuse_wire.specs.Mappings.{remove_one}
use Rattle.fuse_codec.proofs.Ones.{fits_none, fits_more, fits_all}
use Rattle.fuse_codec.proofs.fitting.removes_fit.Goals as goal

pub loop-one-init : goal.loop-one-init
loop-one-init c = fits_none

pub loop-one-preserved : goal.loop-one-preserved
loop-one-preserved c = fits_more remove_one c.args.ones.now c.loop-one.one-index _ c.loop-one-test.true c.loop-one.invariant c.put.ensures.fits

pub returns : goal.returns
returns c = fits_all remove_one c.args.ones.now c.loop-one.one-index c.loop-one-test.false c.loop-one.invariant
