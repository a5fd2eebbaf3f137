use Rattle.std.proofs.Common.{List, ℕ, ◌++◌, take}
use Rattle.std.specs.List.{filter_map}
use Rattle.design_elements.specs.Seen.{IsSeenElements, row_of}
use Rattle.design_elements.proofs.twice.SeenElements.add_list.Given as goal

abbrev pub invariant-loop-element : goal.invariant-loop-element
invariant-loop-element l =
    (rows : List ((List ℕ × ℕ) × ℕ)) → IsSeenElements l.initial.self rows → IsSeenElements l.self (rows ++ filter_map (row_of l.cells.0 l.cells.1 l.line) (take l.element-index l.elements))
