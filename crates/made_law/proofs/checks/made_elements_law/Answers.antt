use Rattle.made_law.proofs.checks.Elements.{elements_right}
use Rattle.made_law.proofs.checks.made_elements_law.Goals as goal

pub returns : goal.returns
returns c = record { law = elements_right }
