use Rattle.stil_parts.proofs.BytesKept as law
use Rattle.stil_parts.proofs.laws.bytes_law.Goals as goal

pub returns : goal.returns
returns c = record { law = law.bytes_law }
