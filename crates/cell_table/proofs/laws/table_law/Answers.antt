use Rattle.cell_table.proofs.TableFaults.{one_table, no_fault}
use Rattle.cell_table.proofs.laws.table_law.Goals as goal

pub returns : goal.returns
returns c = record { one = one_table; no_fault = no_fault }
