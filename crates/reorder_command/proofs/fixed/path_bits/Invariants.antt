use Rattle.std.proofs.Common.{◌≡◌, take, sum_by}
use Rattle.traced_paths.specs.Bits.{step_bits}
use Rattle.reorder_command.proofs.fixed.path_bits.Given as goal

abbrev pub invariant-loop-step : goal.invariant-loop-step
invariant-loop-step l = l.bits ≡ sum_by (step_bits l.netlist l.table) (take l.step-index l.path.steps)
