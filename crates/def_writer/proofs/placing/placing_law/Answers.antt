use Rattle.def_writer.proofs.placing.Placed.{placed}
use Rattle.def_writer.proofs.placing.placing_law.Goals as goal

pub returns : goal.returns
returns c = record { law = λ n d ok agreed. placed n d ok agreed }
