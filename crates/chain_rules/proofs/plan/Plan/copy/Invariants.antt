use Rattle.std.proofs.Common.{◌≡◌, take}
use Rattle.chain_rules.specs.Plans.{lists_of}
use Rattle.chain_rules.proofs.plan.Plan.copy.Given as goal

abbrev pub invariant-loop-chain : goal.invariant-loop-chain
invariant-loop-chain l = lists_of l.chains.items ≡ take l.chain-index (lists_of l.chain-items)
