use Rattle.std.proofs.Common.{◌≡◌, map, take}
use Rattle.traced_paths.specs.Asked.{told}
use Rattle.head_chains.specs.Asked.{asked_by_chain}
use Rattle.head_chains.proofs.asked.asks_of_chains.Given as goal

abbrev pub invariant-loop-chain : goal.invariant-loop-chain
invariant-loop-chain l = map told l.asks.items ≡ map asked_by_chain (take l.chain-index l.chains)
