use Rattle.stil_written.proofs.Fronts.{front_law, head_front_law}
use Rattle.stil_written.proofs.laws.front_law.Goals as goal

pub returns : goal.returns
returns c = record { ends = head_front_law; law = front_law }
