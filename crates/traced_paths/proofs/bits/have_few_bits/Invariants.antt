use Rattle.std.proofs.Common.{take}
use Rattle.traced_paths.specs.Bits.{all_bits}
use Rattle.traced_paths.specs.Steps.{AreFew}
use Rattle.traced_paths.proofs.bits.have_few_bits.Given as goal

abbrev pub invariant-loop-path : goal.invariant-loop-path
invariant-loop-path l = AreFew (all_bits l.netlist l.table (take l.path-index l.paths)) l.total
