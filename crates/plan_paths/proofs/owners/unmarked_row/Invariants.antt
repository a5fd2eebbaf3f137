use Rattle.std.proofs.Common.{◌≡◌, ℕ, []}
use Rattle.plan_paths.specs.Owners.{owners}
use Rattle.plan_paths.proofs.owners.unmarked_row.Given as goal

abbrev pub invariant-loop : goal.invariant-loop
invariant-loop l = (path : ℕ) → l.row.items ≡ owners [] path l.counter
