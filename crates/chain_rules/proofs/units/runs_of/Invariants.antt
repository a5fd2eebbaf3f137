use Rattle.chain_rules.proofs.Refused.{AreFirstRuns}
use Rattle.chain_rules.proofs.units.runs_of.Given as goal

abbrev pub invariant-loop-chain : goal.invariant-loop-chain
invariant-loop-chain l = AreFirstRuns l.index l.chains l.runs.items l.chain
