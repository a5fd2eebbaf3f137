use Rattle.std.proofs.Common.{◌≡◌, ℕ, ◌*◌, ◌<◌, length, All, Some}
use Rattle.chain_rules.specs.Legality.{chain_at, partition_of, rule_at}
use Rattle.chain_rules.proofs.owners.are_own.Given as goal

abbrev pub invariant-loop-window : goal.invariant-loop-window
invariant-loop-window l = (c : ℕ) → c < length l.plan.chains → All (λ u. u < l.window * 4096 → partition_of l.rules u ≡ Some (rule_at l.rules c).partition) (chain_at l.plan c)
