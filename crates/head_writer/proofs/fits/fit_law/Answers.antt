use Rattle.head_writer.proofs.fits.Fits.{names, own, fits}
use Rattle.head_writer.proofs.fits.fit_law.Goals as goal

pub returns : goal.returns
returns c = record { names = names; own = own; fits = fits }
