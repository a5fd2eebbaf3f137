use Rattle.design_files.proofs.Belong.{measured}
use Rattle.design_files.proofs.laws.measured_law.Goals as goal

pub returns : goal.returns
returns c = record { law = measured c.elements_law.ensures.few c.elements_law.ensures.few_chains }
