use Rattle.stil_tokens.proofs.StilUnique.{only_law}
use Rattle.stil_tokens.proofs.laws.split_law.Goals as goal

pub returns : goal.returns
returns c = record { only = only_law }
