use Rattle.std.proofs.Common.{take}
use Rattle.plan_paths.specs.Owners.{AreOwners}
use Rattle.plan_paths.proofs.owners.owners_of.Given as goal

abbrev pub invariant-loop-chain : goal.invariant-loop-chain
invariant-loop-chain l = AreOwners l.paths (take l.chain l.chains) l.rows.items
