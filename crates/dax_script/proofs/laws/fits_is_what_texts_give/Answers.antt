use Rattle.dax_script.proofs.TextFits.{fits_exactly}
use Rattle.dax_script.proofs.laws.fits_is_what_texts_give.Goals as goal

pub returns : goal.returns
returns c = fits_exactly
