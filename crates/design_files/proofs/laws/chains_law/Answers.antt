use Rattle.design_files.proofs.Belong.{chains}
use Rattle.design_files.proofs.laws.chains_law.Goals as goal

pub returns : goal.returns
returns c = record { law = chains c.elements_law.ensures.elements c.elements_law.ensures.once c.elements_law.ensures.few c.elements_law.ensures.few_chains }
