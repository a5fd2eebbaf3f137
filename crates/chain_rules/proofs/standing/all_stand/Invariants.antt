use Rattle.std.proofs.Common.{ℕ, ◌-◌, ◌<◌, Contains}
use Rattle.std.specs.List.{concat}
use Rattle.chain_rules.proofs.standing.all_stand.Given as goal

abbrev pub invariant-loop-low : goal.invariant-loop-low
invariant-loop-low l = (u : ℕ) → u < l.low → Contains (concat l.plan.chains) u

abbrev pub decreases-loop-low : goal.decreases-loop-low
decreases-loop-low l = l.units - l.low
