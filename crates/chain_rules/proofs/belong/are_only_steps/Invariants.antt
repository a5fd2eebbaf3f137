use Rattle.std.proofs.Common.{ℕ, ◌<◌}
use Rattle.chain_rules.specs.Belonging.{IsOnlyStep}
use Rattle.chain_rules.proofs.belong.are_only_steps.Given as goal

abbrev pub invariant-loop-place : goal.invariant-loop-place
invariant-loop-place l = (k : ℕ) → k < l.place → IsOnlyStep l.index l.path k
