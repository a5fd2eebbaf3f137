use Rattle.std.proofs.Common.{◌≡◌, ◌++◌, drop}
use Rattle.std.specs.List.{flat_map}
use Rattle.trace_command.specs.Reports.{step_text}
use Rattle.trace_command.proofs.report.push_steps.Given as goal

abbrev pub invariant-loop-step : goal.invariant-loop-step
invariant-loop-step l =
    l.text.items ++ flat_map (step_text l.netlist l.table) (drop l.step-index l.steps) ≡ l.fn.text.items ++ flat_map (step_text l.netlist l.table) l.steps
