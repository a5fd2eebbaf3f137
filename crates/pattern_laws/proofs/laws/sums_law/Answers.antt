use Rattle.pattern_laws.proofs.Sums.{sums_law}
use Rattle.pattern_laws.proofs.laws.sums_law.Goals as goal

pub returns : goal.returns
returns c = record { law = sums_law }
