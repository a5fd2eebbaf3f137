use Rattle.written_meaning.proofs.patterns.Meanings.{moves_law, meaning_law, front_law}
use Rattle.written_meaning.proofs.patterns.retargeted_law.Goals as goal

pub returns : goal.returns
returns c = record { front = front_law; moves = moves_law; law = meaning_law }
