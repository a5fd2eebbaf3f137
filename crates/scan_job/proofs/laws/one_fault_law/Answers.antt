use Rattle.scan_job.proofs.OneFault.{one_fault}
use Rattle.scan_job.proofs.laws.one_fault_law.Goals as goal

pub returns : goal.returns
returns c = record { law = one_fault c.fault_law.ensures.law }
