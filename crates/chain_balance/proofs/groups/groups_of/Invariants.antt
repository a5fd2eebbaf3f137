use Rattle.std.proofs.Common.{◌==◌}
use Rattle.std.specs.HashMap.{get}
use Rattle.chain_balance.proofs.Grouping.{AreKnown}
use Rattle.chain_balance.proofs.groups.groups_of.Given as goal

abbrev pub invariant-loop-chain : goal.invariant-loop-chain
invariant-loop-chain l = AreKnown l.rules (get ◌==◌ l.numbers) l.groups.items l.chain
