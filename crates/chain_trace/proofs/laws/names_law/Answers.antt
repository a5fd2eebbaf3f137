use Rattle.chain_trace.proofs.NamedPaths.{path_there}
use Rattle.chain_trace.proofs.laws.names_law.Goals as goal

pub returns : goal.returns
returns c = record { same = λ n m cells path n_ok m_ok same is. path_there n m cells n_ok m_ok same path is }
