use Rattle.head_alike.proofs.Trees.{joined_law, inner_law, erased_law}
use Rattle.head_alike.proofs.Turning.{clauses_law}
use Rattle.head_alike.proofs.laws.tree_law.Goals as goal

pub returns : goal.returns
returns c = record { joined = joined_law; inner = inner_law; erased = erased_law; clauses = clauses_law }
