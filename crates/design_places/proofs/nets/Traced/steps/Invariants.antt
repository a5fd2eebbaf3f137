use Rattle.std.proofs.Common.{take}
use Rattle.list_laws.specs.Leasts.{IsLeast}
use Rattle.design_places.specs.Lines.{ForOne, StepLacks}
use Rattle.design_places.proofs.nets.Traced.steps.Given as goal

abbrev pub invariant-loop-step : goal.invariant-loop-step
invariant-loop-step l = IsLeast (ForOne (StepLacks l.self) (take l.step-index l.steps)) l.least
