use Rattle.std.proofs.Common.{◌≡◌, map, take}
use Rattle.design_elements.specs.Elements.{list_spec}
use Rattle.design_elements.proofs.specs.list_specs.Given as goal

abbrev pub invariant-loop-list : goal.invariant-loop-list
invariant-loop-list l = l.specs ≡ map (list_spec l.numbers l.cells.0 l.cells.1) (take l.list-index l.lists)
