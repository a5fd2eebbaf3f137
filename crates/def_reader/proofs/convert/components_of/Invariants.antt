use Rattle.std.proofs.Common.{◌≡◌, map, take}
use Rattle.def_reader.specs.Designs.{component_of}
use Rattle.def_reader.proofs.convert.components_of.Given as goal

abbrev pub invariant-loop-component : goal.invariant-loop-component
invariant-loop-component l = l.components ≡ map component_of (take l.component-index l.fn.statements)
