use Rattle.path_chains.proofs.Cells.{same_cells}
use Rattle.path_chains.proofs.BitRanks.{ranks_number}
use Rattle.path_chains.proofs.laws.cells_law.Goals as goal

pub returns : goal.returns
returns c = record { cells = same_cells; ranks = ranks_number }
