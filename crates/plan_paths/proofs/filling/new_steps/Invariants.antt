use Rattle.std.proofs.Common.{◌≡◌, map}
use Rattle.plan_paths.specs.NewPaths.{new_places, step_in}
use Rattle.plan_paths.proofs.filling.new_steps.Given as goal

abbrev pub invariant-loop-place : goal.invariant-loop-place
invariant-loop-place l = l.steps ≡ map (step_in l.paths) (new_places l.rules l.plan l.path l.place)
