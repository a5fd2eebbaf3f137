use Rattle.retargeted_patterns.proofs.Counts.{all_counted}
use Rattle.retargeted_patterns.proofs.laws.figures_law.Goals as goal

pub returns : goal.returns
returns c = record { law = all_counted }
