use Rattle.stil_parts.proofs.EndLaw as law
use Rattle.stil_parts.proofs.laws.end_law.Goals as goal

pub returns : goal.returns
returns c = record { law = law.end_law }
