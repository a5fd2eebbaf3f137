use Rattle.stil_parts.proofs.HeadStable as law
use Rattle.stil_parts.proofs.laws.head_law.Goals as goal

pub returns : goal.returns
returns c = record { law = law.head_law }
