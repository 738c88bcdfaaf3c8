use Rattle.transcript_text.proofs.TextFits.{fits_if_printable, fits_exactly}
use Rattle.transcript_text.proofs.laws.fits_is_what_texts_give.Goals as goal

pub returns : goal.returns
returns c = record { bounds = fits_if_printable; texts = fits_exactly }
