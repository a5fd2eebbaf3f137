use Rattle.def_edit.proofs.alike.SameStatements.{same_cut}
use Rattle.def_edit.proofs.alike.SameFrames.{same_opened, same_end, same_head}
use Rattle.def_edit.proofs.alike.frame_law.Goals as goal

pub returns : goal.returns
returns c = record { same = record { cut = same_cut; opened = same_opened; ends = same_end; heads = same_head } }
