use Rattle.cell_table.proofs.TablePins.{pins_once, one_cell_once}
use Rattle.cell_table.proofs.laws.pins_law.Goals as goal

pub returns : goal.returns
returns c = record { table = pins_once; one = one_cell_once }
