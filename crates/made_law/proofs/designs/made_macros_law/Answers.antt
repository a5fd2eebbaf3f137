use Rattle.made_law.proofs.designs.Lef.{lef_denotes, lef_faultless}
use Rattle.made_law.proofs.designs.made_macros_law.Goals as goal

pub returns : goal.returns
returns c = record { macros = lef_denotes; no_fault = lef_faultless }
