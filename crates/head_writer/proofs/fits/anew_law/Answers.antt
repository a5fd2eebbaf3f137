use Rattle.head_writer.proofs.fits.Kept.{kept}
use Rattle.head_writer.proofs.fits.Anew.{anew}
use Rattle.head_writer.proofs.fits.anew_law.Goals as goal

pub returns : goal.returns
returns c = record { kept = kept; anew = anew }
