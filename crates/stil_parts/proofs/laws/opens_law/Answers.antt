use Rattle.stil_parts.proofs.OpensLaw as law
use Rattle.stil_parts.proofs.laws.opens_law.Goals as goal

pub returns : goal.returns
returns c = record { law = law.opens_law; parts = law.part_law }
