use Rattle.std.proofs.Common.{◌≡◌, map, take}
use Rattle.path_chains.specs.Numbered.{bits_along}
use Rattle.declared_chains.proofs.declared.bits_of_each.Given as goal

abbrev pub invariant-loop-path : goal.invariant-loop-path
invariant-loop-path l = l.bits ≡ map (bits_along l.netlist l.table) (take l.path-index l.paths)
