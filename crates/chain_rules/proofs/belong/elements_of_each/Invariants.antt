use Rattle.std.proofs.Common.{◌≡◌, take, map}
use Rattle.chain_rules.specs.Stretches.{elements_of}
use Rattle.chain_rules.proofs.belong.elements_of_each.Given as goal

abbrev pub invariant-loop-chain : goal.invariant-loop-chain
invariant-loop-chain l = l.lists.items ≡ map elements_of (take l.chain-index l.chains)
