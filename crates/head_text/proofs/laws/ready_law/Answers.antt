use Rattle.head_text.proofs.Ready.{pieces_law, steps_law, number_law}
use Rattle.head_text.proofs.laws.ready_law.Goals as goal

pub returns : goal.returns
returns c = record { pieces = pieces_law; steps = steps_law; number = number_law }
