use Rattle.path_laws.proofs.Declared.{declared}
use Rattle.path_laws.proofs.laws.declared_law.Goals as goal

pub returns : goal.returns
returns c = record { law = declared }
