use Rattle.made_law.proofs.patterns.Behind.{patterns_law, no_pattern_fault}
use Rattle.made_law.proofs.patterns.made_patterns_law.Goals as goal

pub returns : goal.returns
returns c = record { patterns = patterns_law; no_fault = no_pattern_fault }
