use Rattle.retargeted_patterns.proofs.PortTexts.{text_same}
use Rattle.retargeted_patterns.proofs.laws.texts_law.Goals as goal

pub returns : goal.returns
returns c = record { law = λ read written move statement same. text_same read written same move statement }
