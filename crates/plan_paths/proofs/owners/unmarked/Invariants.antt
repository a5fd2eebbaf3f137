use Rattle.plan_paths.specs.Owners.{AreUnmarked}
use Rattle.plan_paths.proofs.owners.unmarked.Given as goal

abbrev pub invariant-loop-path : goal.invariant-loop-path
invariant-loop-path l = AreUnmarked l.paths l.path-index l.rows.items
