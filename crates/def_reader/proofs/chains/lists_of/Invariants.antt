use Rattle.std.proofs.Common.{◌≡◌, map, take}
use Rattle.def_reader.specs.Designs.{list_of}
use Rattle.def_reader.proofs.chains.lists_of.Given as goal

abbrev pub invariant-loop-list : goal.invariant-loop-list
invariant-loop-list l = l.lists ≡ map (list_of l.cells.0 l.cells.1 l.common) (take l.list-index l.written)
