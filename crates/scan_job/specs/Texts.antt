-- The texts of a command's outputs.
use Rattle.desk_io.specs.declared.outputs.Outputs.{Outputs}
use Rattle.scan_job.specs.Commands.{Files}
use Rattle.scan_job.specs.Requests.{Request, command_of}
use Rattle.scan_job.specs.Faults.{AreSmall, HasNoCommandFault, HasNoFaultBefore}

-- the outputs are those of the command
abbrev pub AreTexts : Request → Files → Outputs → Type 0
AreTexts request files outputs = (command_of request).texts files outputs

-- no file is too large, the files have no fault, and the outputs are those of the command
pub record AreOutputsOf (request : Request) (files : Files) (outputs : Outputs) : Type 0 where
  pub small : AreSmall request files
  pub no_fault : HasNoCommandFault request files
  pub texts : AreTexts request files outputs

-- the files have no fault but those that are found while the STIL output is written, and the outputs are those of the command
pub record AreOutputsBefore (request : Request) (files : Files) (outputs : Outputs) : Type 0 where
  pub no_fault : HasNoFaultBefore request files
  pub texts : AreTexts request files outputs
