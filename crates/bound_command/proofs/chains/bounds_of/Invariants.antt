use Rattle.std.proofs.Common.{◌≡◌, ℕ, ◌<◌, length}
use Rattle.chain_rules.specs.Legality.{chain_at}
use Rattle.wire_cost.specs.Lengths.{chain_ends}
use Rattle.bound_command.specs.Bounds.{IsChainBound, bound_at}
use Rattle.bound_command.proofs.chains.bounds_of.Given as goal

abbrev pub invariant-loop-number : goal.invariant-loop-number
invariant-loop-number l = record {
  count : length l.bounds.items ≡ l.number;
  each : (c : ℕ) → c < l.number → IsChainBound (chain_ends l.ends c) (chain_at l.rules.read c) (bound_at l.bounds.items c);
}
