use Rattle.written_meaning.proofs.WrittenLaw.{written_law}
use Rattle.written_meaning.proofs.laws.meaning_law.Goals as goal

pub returns : goal.returns
returns c = record { law = written_law c.texts_law.ensures.law c.fit_law.ensures.fits c.anew_law.ensures.anew }
