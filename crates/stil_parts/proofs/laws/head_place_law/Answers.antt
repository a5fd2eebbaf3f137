use Rattle.stil_parts.proofs.HeadPlace as law
use Rattle.stil_parts.proofs.laws.head_place_law.Goals as goal

pub returns : goal.returns
returns c = record { law = law.head_place_law }
