use Rattle.made_law.proofs.checks.Chains.{chains_right}
use Rattle.made_law.proofs.checks.made_chains_law.Goals as goal

pub returns : goal.returns
returns c = record { law = chains_right }
