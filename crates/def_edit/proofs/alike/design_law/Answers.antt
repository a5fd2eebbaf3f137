use Rattle.def_edit.proofs.alike.Designs.{design_law}
use Rattle.def_edit.proofs.alike.design_law.Goals as goal

pub returns : goal.returns
returns c = record { design = design_law }
