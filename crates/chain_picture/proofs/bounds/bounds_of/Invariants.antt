use Rattle.std.proofs.Common.{◌≡◌, drop}
use Rattle.std.specs.Prelude.{None}
use Rattle.chain_picture.specs.Sizes.{with_chains}
use Rattle.chain_picture.proofs.bounds.bounds_of.Given as goal

abbrev pub invariant-loop-chain : goal.invariant-loop-chain
invariant-loop-chain l = with_chains l.bounds (drop l.chain-index l.chains) ≡ with_chains None l.chains
