use Rattle.std.proofs.Common.{◌≡◌, map, take}
use Rattle.def_reader.specs.Designs.{element_of}
use Rattle.def_reader.proofs.chains.elements_of.Given as goal

abbrev pub invariant-loop-element : goal.invariant-loop-element
invariant-loop-element l = l.elements ≡ map (element_of l.cells.0 l.cells.1 l.common) (take l.element-index l.written)
