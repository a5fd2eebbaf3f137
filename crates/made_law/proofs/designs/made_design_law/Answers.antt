use Rattle.made_law.proofs.designs.Denoting.{design_denotes, design_faultless}
use Rattle.made_law.proofs.designs.made_design_law.Goals as goal

pub returns : goal.returns
returns c = record { design = design_denotes; no_fault = design_faultless }
