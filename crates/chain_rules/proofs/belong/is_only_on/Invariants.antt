use Rattle.std.proofs.Common.{◌≡◌, ℕ, ◌<◌, Some}
use Rattle.chain_rules.specs.Stretches.{step_at, IsOf}
use Rattle.chain_rules.proofs.belong.is_only_on.Given as goal

abbrev pub invariant-loop-place : goal.invariant-loop-place
invariant-loop-place l = (k : ℕ) → k < l.place → IsOf (step_at l.path k) l.step.instance l.step.path → l.but ≡ Some k
