use Rattle.chain_rules.specs.Plans.{lists_of}
use Rattle.chain_rules.proofs.Assembled.{AreFirstRules}
use Rattle.chain_rules.proofs.build.rules_of.Given as goal

abbrev pub invariant-loop-chain : goal.invariant-loop-chain
invariant-loop-chain l = AreFirstRules l.index l.chains l.units.items l.rules.items (lists_of l.read.items) l.chain
