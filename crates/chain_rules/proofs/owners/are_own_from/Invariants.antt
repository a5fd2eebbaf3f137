use Rattle.std.proofs.Common.{◌≡◌, ℕ, ◌+◌, ◌<◌, ◌≤◌, All, Some}
use Rattle.chain_rules.specs.Legality.{chain_at, partition_of, rule_at}
use Rattle.chain_rules.proofs.owners.are_own_from.Given as goal

abbrev pub invariant-loop-chain : goal.invariant-loop-chain
invariant-loop-chain l = (c : ℕ) → c < l.chain → All (λ u. l.low ≤ u → u < l.low + 4096 → partition_of l.rules u ≡ Some (rule_at l.rules c).partition) (chain_at l.plan c)
