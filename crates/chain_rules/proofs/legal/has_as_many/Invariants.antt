use Rattle.std.proofs.Common.{◌≡◌, ◌+◌, length, take}
use Rattle.std.specs.List.{concat}
use Rattle.chain_rules.proofs.legal.has_as_many.Given as goal

abbrev pub invariant-loop-chain : goal.invariant-loop-chain
invariant-loop-chain l = l.left + length (concat (take l.chain l.plan.chains)) ≡ l.units
