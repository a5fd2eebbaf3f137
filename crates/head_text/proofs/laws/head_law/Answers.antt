use Rattle.head_text.proofs.Written.{head_law}
use Rattle.head_text.proofs.laws.head_law.Goals as goal

pub returns : goal.returns
returns c = record { law = head_law }
