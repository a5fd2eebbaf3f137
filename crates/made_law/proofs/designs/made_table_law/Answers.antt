use Rattle.made_law.proofs.designs.Table.{table_is, table_faultless}
use Rattle.made_law.proofs.designs.made_table_law.Goals as goal

pub returns : goal.returns
returns c = record { cells = table_is; no_fault = table_faultless }
