use Rattle.std.proofs.Common.{ℕ, ◌<◌}
use Rattle.chain_balance.specs.Gains.{CanLeave}
use Rattle.chain_balance.proofs.gains.first_leaving.Given as goal

abbrev pub invariant-loop-place : goal.invariant-loop-place
invariant-loop-place l = (place : ℕ) → place < l.place → ¬ CanLeave l.rules l.plan l.giver l.room place
