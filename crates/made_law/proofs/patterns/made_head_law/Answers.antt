use Rattle.made_law.proofs.patterns.Denoting.{text_law, whole_law, head_law, no_whole_fault, no_fault}
use Rattle.made_law.proofs.patterns.made_head_law.Goals as goal

pub returns : goal.returns
returns c = record { text = text_law; whole = whole_law; head = head_law; no_whole_fault = no_whole_fault; no_fault = no_fault }
