use Rattle.std.proofs.Common.{◌+◌, take}
use Rattle.std.specs.Prelude.{sum_by}
use Rattle.traced_paths.specs.Bits.{step_bits}
use Rattle.traced_paths.specs.Steps.{AreFew}
use Rattle.traced_paths.proofs.bits.with_path.Given as goal

abbrev pub invariant-loop-step : goal.invariant-loop-step
invariant-loop-step l = AreFew (l.total + sum_by (step_bits l.netlist l.table) (take l.step-index l.path.steps)) l.sum
