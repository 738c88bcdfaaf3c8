use Rattle.fuse_wire.specs.Forgets.{forget_one}
use Rattle.fuse_codec.proofs.Ones.{fits_none, fits_more, fits_all}
use Rattle.fuse_codec.proofs.fitting.forgets_fit.Goals as goal

pub loop-one-init : goal.loop-one-init
loop-one-init c = fits_none

pub loop-one-preserved : goal.loop-one-preserved
loop-one-preserved c = fits_more forget_one c.args.ones.now c.loop-one.one-index _ c.loop-one-test.true c.loop-one.invariant c.put.ensures.fits

pub returns : goal.returns
returns c = fits_all forget_one c.args.ones.now c.loop-one.one-index c.loop-one-test.false c.loop-one.invariant
