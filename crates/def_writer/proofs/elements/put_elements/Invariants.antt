use Rattle.std.proofs.Common.{◌≡◌, ◌++◌, map, take}
use Rattle.def_writer.specs.PlanChains.{element_of}
use Rattle.def_writer.proofs.elements.put_elements.Given as goal

abbrev pub invariant-loop-step : goal.invariant-loop-step
invariant-loop-step l = l.elements ≡ l.initial.elements ++ map (element_of l.netlist l.table) (take l.step-index l.steps)
