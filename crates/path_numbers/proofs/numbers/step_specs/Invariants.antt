use Rattle.std.proofs.Common.{◌≡◌, map, take}
use Rattle.path_numbers.specs.Numbers.{step_spec}
use Rattle.path_numbers.proofs.numbers.step_specs.Given as goal

abbrev pub invariant-loop-step : goal.invariant-loop-step
invariant-loop-step l = l.specs ≡ map (step_spec l.netlist l.table) (take l.step-index l.steps)
