use Rattle.def_tokens.proofs.DefUnique.{only_law}
use Rattle.def_tokens.proofs.laws.split_law.Goals as goal

pub returns : goal.returns
returns c = record { only = only_law }
