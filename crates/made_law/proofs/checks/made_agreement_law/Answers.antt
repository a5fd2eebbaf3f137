use Rattle.made_law.proofs.checks.Agreeing.{agreement_right}
use Rattle.made_law.proofs.checks.made_agreement_law.Goals as goal

pub returns : goal.returns
returns c = record { law = agreement_right }
