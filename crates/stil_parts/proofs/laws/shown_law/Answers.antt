use Rattle.stil_parts.proofs.ShownLaw as law
use Rattle.stil_parts.proofs.laws.shown_law.Goals as goal

pub returns : goal.returns
returns c = record { law = law.shown_law }
