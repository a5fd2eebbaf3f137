use Rattle.std.proofs.Common.{◌≡◌, ℕ, ◌+◌, ◌<◌, false, nat_eq, length, get_or, take}
use Rattle.std.specs.List.{list_any}
use Rattle.chain_rules.proofs.standing.stand_from.Given as goal

abbrev pub invariant-loop-chain : goal.invariant-loop-chain
invariant-loop-chain l =
    (length l.marks ≡ 16384)
    × ((k : ℕ) → k < 16384 → get_or l.marks k false ≡ list_any (list_any (λ v. nat_eq v (l.low + k))) (take l.chain l.plan.chains))
