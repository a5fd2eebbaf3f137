use Rattle.std.proofs.Common.{◌≡◌, map, take}
use Rattle.traced_paths.specs.Bits.{path_bits}
use Rattle.reorder_command.proofs.fixed.path_bits_of.Given as goal

abbrev pub invariant-loop-path : goal.invariant-loop-path
invariant-loop-path l = l.bits.items ≡ map (path_bits l.netlist l.table) (take l.path-index l.paths)
