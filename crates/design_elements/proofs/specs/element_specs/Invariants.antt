use Rattle.std.proofs.Common.{◌≡◌, map, take}
use Rattle.design_elements.specs.Elements.{element_spec}
use Rattle.design_elements.proofs.specs.element_specs.Given as goal

abbrev pub invariant-loop-element : goal.invariant-loop-element
invariant-loop-element l = l.specs ≡ map (element_spec l.numbers l.cells.0 l.cells.1) (take l.element-index l.elements)
