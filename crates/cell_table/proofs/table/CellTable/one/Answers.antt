use Rattle.cell_table.proofs.Found.{one_in_order}
use Rattle.cell_table.proofs.table.CellTable.one.Goals as goal

pub invariant_of-result : goal.invariant_of-result
invariant_of-result c = one_in_order c.push-4.new.self.items c.new-cells.result.items (record { name = c.in_ok-copy-3.field-0; paths = c.push-3.new.self }) c.new-cells.ensures.items c.in_ok-push-4.ensures.items
