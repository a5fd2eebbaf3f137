use Rattle.head_alike.proofs.Clauses.{stays_law, said_law, length_law, inversion_law}
use Rattle.head_alike.proofs.Cells.{cells_law}
use Rattle.head_alike.proofs.laws.clause_law.Goals as goal

pub returns : goal.returns
returns c = record { stays = stays_law; said = said_law; length = length_law; inversion = inversion_law; cells = cells_law }
