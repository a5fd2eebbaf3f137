use Rattle.std.proofs.Common.{take}
use Rattle.list_laws.specs.Leasts.{IsLeast}
use Rattle.traced_paths.specs.Steps.{IsMarked}
use Rattle.traced_paths.proofs.shared.least_marked.Given as goal

abbrev pub invariant-loop-step : goal.invariant-loop-step
invariant-loop-step l = IsLeast (IsMarked l.netlist l.marks (take l.step-index l.steps)) l.least
