use Rattle.head_alike.proofs.Rows.{split_law}
use Rattle.head_alike.proofs.Chains.{chain_law}
use Rattle.head_alike.proofs.Heads.{head_law}
use Rattle.head_alike.proofs.laws.head_law.Goals as goal

pub returns : goal.returns
returns c = record { split = split_law; chain = chain_law; law = head_law }
