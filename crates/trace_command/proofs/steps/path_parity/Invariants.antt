use Rattle.std.proofs.Common.{◌≡◌, drop}
use Rattle.std.specs.List.{flat_map}
use Rattle.chain_trace.specs.Parities.{plus, odd, step_inversions, path_parity}
use Rattle.trace_command.proofs.steps.path_parity.Given as goal

abbrev pub invariant-loop-step : goal.invariant-loop-step
invariant-loop-step l = plus l.parity (odd (flat_map (step_inversions l.netlist l.table) (drop l.step-index l.steps))) ≡ path_parity l.netlist l.table l.steps
