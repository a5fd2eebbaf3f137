use Rattle.made_law.proofs.Joining.{beside_head, patterns_right}
use Rattle.made_law.proofs.laws.made_law.Goals as goal

pub returns : goal.returns
returns c = record { files = beside_head; patterns = patterns_right }
