use Rattle.made_law.proofs.checks.Heads.{heads_right, declared_right}
use Rattle.made_law.proofs.checks.made_heads_law.Goals as goal

pub returns : goal.returns
returns c = record { heads = heads_right; declared = declared_right }
