use Rattle.std.proofs.Common.{◌≡◌, ◌≤◌, length, drop}
use Rattle.std.specs.List.{flat_map}
use Rattle.head_checks.specs.CellNames.{name_each}
use Rattle.head_checks.specs.Heads.{step_names}
use Rattle.head_checks.proofs.cells.name_steps.Given as goal

abbrev pub invariant-loop-step : goal.invariant-loop-step
invariant-loop-step l = record {
  within : l.at ≤ length l.names;
  same : name_each l.netlist.«module» (flat_map (step_names l.netlist l.table) (drop l.step-index l.steps)) (drop l.at l.names) ≡ name_each l.netlist.«module» (flat_map (step_names l.netlist l.table) l.steps) l.names;
}
