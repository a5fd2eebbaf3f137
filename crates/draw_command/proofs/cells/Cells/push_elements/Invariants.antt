use Rattle.std.proofs.Common.{◌≡◌, ◌++◌, drop}
use Rattle.draw_command.specs.Drawn.{element_cells}
use Rattle.draw_command.proofs.cells.Cells.push_elements.Given as goal

abbrev pub invariant-loop-element : goal.invariant-loop-element
invariant-loop-element l =
    l.cells.items ++ element_cells l.self.0 l.self.1 (drop l.element-index l.elements) ≡ l.fn.cells.items ++ element_cells l.self.0 l.self.1 l.elements
