use Rattle.def_edit.proofs.alike.Alike.{alike_law}
use Rattle.def_edit.proofs.alike.Cutting.{cut_law}
use Rattle.def_edit.proofs.alike.alike_law.Goals as goal

pub returns : goal.returns
returns c = record { cut = cut_law; alike = alike_law }
