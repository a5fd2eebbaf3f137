use Rattle.made_law.proofs.designs.SectionLines.{statements_are}
use Rattle.made_law.proofs.designs.made_statements_law.Goals as goal

pub returns : goal.returns
returns c = record { law = statements_are }
