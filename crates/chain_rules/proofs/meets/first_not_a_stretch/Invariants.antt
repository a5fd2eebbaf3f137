use Rattle.std.proofs.Common.{ℕ, ◌<◌}
use Rattle.chain_rules.specs.ChainFaults.{IsNotAStretch}
use Rattle.chain_rules.proofs.meets.first_not_a_stretch.Given as goal

abbrev pub invariant-loop-chain : goal.invariant-loop-chain
invariant-loop-chain l = (c : ℕ) → c < l.chain → ¬ IsNotAStretch l.index l.chains c
