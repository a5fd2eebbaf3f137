use Rattle.std.proofs.Common.{◌≡◌, ◌++◌}
use Rattle.toml.specs.View.{members_view, table_view}
use Rattle.cell_table.specs.Ascending.{HaveOutsInOrder}
use Rattle.cell_table.specs.Cells.{cells_of}
use Rattle.cell_table.proofs.CellLoop.{with_cells, Ascend, cell_names, entry_names}
use Rattle.cell_table.specs.Kept.{cells_view}
use Rattle.cell_table.proofs.cells.cells_of.Given as goal

abbrev pub invariant-loop-name : goal.invariant-loop-name
invariant-loop-name l =
    (goal.iterator-loop-name).can_next l.name-iterator × (goal.iterator-loop-name).is_finite l.name-iterator
    × record {
      same : with_cells (cells_view l.cells.items) (cells_of (members_view l.name-iterator)) ≡ cells_of (table_view l.table);
      ascend : Ascend (cell_names l.cells.items ++ entry_names l.name-iterator);
      order : HaveOutsInOrder (cells_view l.cells.items);
    }
