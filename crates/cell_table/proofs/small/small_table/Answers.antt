use Rattle.cell_table.proofs.SmallTable.{small_table}
use Rattle.cell_table.proofs.small.small_table.Goals as goal

pub returns : goal.returns
returns c = record { value = small_table }
