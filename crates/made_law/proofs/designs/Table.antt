-- The made cell table is the small table.
use Rattle.cell_table.specs.Table.{small_cells}
use Rattle.cell_table.proofs.SmallTable.{small_table}
use Rattle.cell_table.proofs.EntryLaws.{table_denotes}
use Rattle.cell_table.proofs.TableFaults.{no_fault}
use Rattle.design_maker.specs.MadeCells.{table_text}
use Rattle.made_law.specs.Designs.Laws.{TableLaw, NoTableFaultLaw}

pub table_is : TableLaw
table_is = table_denotes table_text small_cells small_table

pub table_faultless : NoTableFaultLaw
table_faultless fault = no_fault table_text small_cells fault table_is
