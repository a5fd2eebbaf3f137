use Rattle.pattern_laws.proofs.Texts.{all_law, moved_front_law}
use Rattle.pattern_laws.proofs.laws.all_law.Goals as goal

pub returns : goal.returns
returns c = record { front = moved_front_law; law = all_law }
