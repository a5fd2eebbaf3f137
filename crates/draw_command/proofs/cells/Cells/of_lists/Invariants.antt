use Rattle.std.proofs.Common.{◌≡◌, ◌++◌, drop}
use Rattle.draw_command.specs.Drawn.{list_cells}
use Rattle.draw_command.proofs.cells.Cells.of_lists.Given as goal

abbrev pub invariant-loop-list : goal.invariant-loop-list
invariant-loop-list l = l.cells.items ++ list_cells l.self.0 l.self.1 (drop l.list-index l.lists) ≡ list_cells l.self.0 l.self.1 l.lists
