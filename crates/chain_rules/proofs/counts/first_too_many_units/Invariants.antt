use Rattle.std.proofs.Common.{ℕ, ◌<◌}
use Rattle.chain_rules.specs.ChainFaults.{IsTooManyUnits}
use Rattle.chain_rules.proofs.Counting.{CountUnits}
use Rattle.chain_rules.proofs.counts.first_too_many_units.Given as goal

abbrev pub invariant-loop-chain : goal.invariant-loop-chain
invariant-loop-chain l = record {
  few : (c : ℕ) → c < l.chain → ¬ IsTooManyUnits l.chains c;
  counts : CountUnits l.chains l.chain l.units;
}
