use Rattle.head_text.proofs.Mixes.{mix_law}
use Rattle.head_text.proofs.laws.mix_law.Goals as goal

pub returns : goal.returns
returns c = record { law = mix_law }
