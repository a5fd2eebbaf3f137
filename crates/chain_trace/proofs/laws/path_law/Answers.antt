use Rattle.chain_trace.proofs.Meeting.{no_path}
use Rattle.chain_trace.proofs.OneFault as proof
use Rattle.chain_trace.proofs.laws.path_law.Goals as goal

pub returns-clause-no_fault : goal.returns-clause-no_fault
returns-clause-no_fault c n cells output fault is p path = no_path n cells output fault is p path

pub returns-clause-one_fault : goal.returns-clause-one_fault
returns-clause-one_fault c n cells output f g a b = proof.one_fault n cells output f g a b
