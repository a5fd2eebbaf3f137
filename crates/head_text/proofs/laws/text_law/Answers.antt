use Rattle.head_text.proofs.Texts.{text_law}
use Rattle.head_text.proofs.laws.text_law.Goals as goal

pub returns : goal.returns
returns c = record { law = text_law }
