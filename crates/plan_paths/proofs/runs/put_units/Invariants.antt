use Rattle.std.proofs.Common.{◌≡◌, ◌++◌, map, take}
use Rattle.plan_paths.specs.NewPaths.{runs_places, step_in}
use Rattle.plan_paths.proofs.runs.put_units.Given as goal

abbrev pub invariant-loop-unit : goal.invariant-loop-unit
invariant-loop-unit l = l.steps ≡ l.initial.steps ++ map (step_in l.paths) (runs_places l.rules (take l.unit-index l.units))
