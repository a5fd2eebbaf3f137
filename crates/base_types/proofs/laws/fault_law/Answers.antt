use Rattle.base_types.proofs.FaultOrder.{same_fault}
use Rattle.base_types.proofs.laws.fault_law.Goals as goal

pub returns : goal.returns
returns c = record { law = same_fault }
