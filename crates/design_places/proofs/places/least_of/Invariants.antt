use Rattle.std.proofs.Common.{take}
use Rattle.list_laws.specs.Leasts.{IsLeast}
use Rattle.design_places.specs.Lines.{ForOne, IsNowhere}
use Rattle.design_places.proofs.places.least_of.Given as goal

abbrev pub invariant-loop-step : goal.invariant-loop-step
invariant-loop-step l = IsLeast (ForOne (IsNowhere l.netlist l.components.0 l.components.1) (take l.step-index l.steps)) l.least
