use Rattle.std.proofs.Common.{List, ℕ, ◌++◌, take}
use Rattle.std.specs.List.{filter_map, flat_map}
use Rattle.def_reader.specs.Sound.{elements_in}
use Rattle.design_elements.specs.Seen.{IsSeenElements, row_of}
use Rattle.design_elements.proofs.twice.SeenElements.add_lists.Given as goal

abbrev pub invariant-loop-list : goal.invariant-loop-list
invariant-loop-list l =
    (rows : List ((List ℕ × ℕ) × ℕ)) → IsSeenElements l.initial.self rows
    → IsSeenElements l.self (rows ++ filter_map (row_of l.cells.0 l.cells.1 l.line) (flat_map elements_in (take l.list-index l.lists)))
