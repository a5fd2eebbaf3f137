use Rattle.std.proofs.Common.{◌≡◌, map}
use Rattle.std.specs.List.{range_with_len}
use Rattle.plan_paths.specs.NewPaths.{new_path}
use Rattle.plan_paths.proofs.paths.new_paths.Given as goal

abbrev pub invariant-loop-number : goal.invariant-loop-number
invariant-loop-number l = l.new.items ≡ map (new_path l.paths l.rules l.plan) (range_with_len 0 l.number)
