use Rattle.std.proofs.Common.{ℕ, ◌<◌}
use Rattle.chain_rules.specs.Stretches.{spec_at}
use Rattle.chain_rules.specs.ChainFaults.{IsOverMaxBits}
use Rattle.chain_rules.proofs.faults.first_over_max_bits.Given as goal

abbrev pub invariant-loop-chain : goal.invariant-loop-chain
invariant-loop-chain l = (c : ℕ) → c < l.chain → ¬ IsOverMaxBits l.index (spec_at l.chains c)
