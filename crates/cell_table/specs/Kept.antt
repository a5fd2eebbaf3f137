-- How a table keeps its cells.
use Rattle.std.specs.Prelude.{ℕ, List, map}
use Rattle.cell_table.specs.declared.paths.ScanPath.{ScanPath}
use Rattle.cell_table.specs.declared.table.Cell.{Cell}
use Rattle.cell_table.specs.Ascending.{AreAscending}

-- the cells, each as its name with its paths
abbrev pub cells_view : List Cell → List (List ℕ × List ScanPath)
cells_view cells = map (λ c. (c.name, c.paths)) cells

-- they stand in the order of their names, by bytes
abbrev pub AreInOrder : List Cell → Type 0
AreInOrder cells = AreAscending (map (λ c. c.name) cells)
