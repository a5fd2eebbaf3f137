use Rattle.chain_trace.proofs.Sums.{sum_path}
use Rattle.chain_trace.proofs.laws.parity_law.Goals as goal

pub returns : goal.returns
returns c = record { sum = λ n cells steps all are. sum_path n cells steps all are }
