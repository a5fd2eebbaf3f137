use Rattle.std.specs.Prelude.{min}
use Rattle.plan_paths.specs.Owners.{IsRowMarked}
use Rattle.plan_paths.proofs.owners.mark.Given as goal

abbrev pub invariant-loop-place : goal.invariant-loop-place
invariant-loop-place l = IsRowMarked l.chain l.first (min l.place l.end) l.initial.row l.row
