use Rattle.std.proofs.Common.{take}
use Rattle.list_laws.specs.Leasts.{IsLeast}
use Rattle.design_places.specs.Lines.{ForOne, GoesNowhere}
use Rattle.design_places.proofs.places.least_nowhere.Given as goal

abbrev pub invariant-loop-path : goal.invariant-loop-path
invariant-loop-path l = IsLeast (ForOne (GoesNowhere l.netlist l.components.0 l.components.1) (take l.path-index l.paths)) l.least
