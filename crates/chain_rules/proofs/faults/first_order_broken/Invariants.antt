use Rattle.std.proofs.Common.{ℕ, ◌<◌}
use Rattle.chain_rules.specs.Stretches.{spec_at}
use Rattle.chain_rules.specs.ChainFaults.{IsOrderBroken}
use Rattle.chain_rules.proofs.faults.first_order_broken.Given as goal

abbrev pub invariant-loop-chain : goal.invariant-loop-chain
invariant-loop-chain l = (c : ℕ) → c < l.chain → ¬ IsOrderBroken l.index (spec_at l.chains c)
