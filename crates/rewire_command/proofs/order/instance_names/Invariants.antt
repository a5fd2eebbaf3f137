use Rattle.std.proofs.Common.{◌≡◌, map, take}
use Rattle.rewire_command.specs.Rewiring.{instance_name}
use Rattle.rewire_command.proofs.order.instance_names.Given as goal

abbrev pub invariant-loop-step : goal.invariant-loop-step
invariant-loop-step l = l.names ≡ map (instance_name l.netlist) (take l.step-index l.path.steps)
