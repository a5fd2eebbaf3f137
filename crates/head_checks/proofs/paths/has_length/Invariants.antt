use Rattle.std.proofs.Common.{◌≡◌, ◌+◌, take}
use Rattle.std.specs.Prelude.{sum_by}
use Rattle.traced_paths.specs.Bits.{step_bits}
use Rattle.head_checks.proofs.paths.has_length.Given as goal

abbrev pub invariant-loop-step : goal.invariant-loop-step
invariant-loop-step l = l.left + sum_by (step_bits l.netlist l.table) (take l.step-index l.path.steps) ≡ l.length
