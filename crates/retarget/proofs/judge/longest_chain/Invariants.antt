use Rattle.std.proofs.Common.{◌≡◌, max, drop, length, map}
use Rattle.stil_types.specs.Calls.{most_bits}
use Rattle.stil_tester.specs.declared.chains.ChainBits.{ChainBits}
use Rattle.retarget.specs.Places.{longest}
use Rattle.retarget.proofs.judge.longest_chain.Given as goal

abbrev pub invariant-loop-chain : goal.invariant-loop-chain
invariant-loop-chain l = max l.most (most_bits (map (λ (chain : ChainBits). length chain.cells) (drop l.chain-index l.chains.chains))) ≡ longest l.chains
