use Rattle.std.proofs.Common.{◌≡◌, ◌+◌, ◌-◌, map}
use Rattle.std.specs.Prelude.{min}
use Rattle.std.specs.List.{range_with_len}
use Rattle.plan_paths.specs.NewPaths.{step_in}
use Rattle.def_writer.proofs.units.run_steps.Given as goal

abbrev pub invariant-loop-place : goal.invariant-loop-place
invariant-loop-place l = l.steps.items ≡ map (step_in l.paths) (map (λ k. (l.unit.path, k)) (range_with_len l.unit.first (min l.place (l.unit.last + 1) - l.unit.first)))
