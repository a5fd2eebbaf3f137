use Rattle.std.proofs.Common.{ℕ, ◌<◌}
use Rattle.chain_balance.specs.Gains.{GivesNone}
use Rattle.chain_balance.specs.Rooms.{best_at, group_of}
use Rattle.chain_balance.proofs.gains.first_gain.Given as goal

abbrev pub invariant-loop-giver : goal.invariant-loop-giver
invariant-loop-giver l = (giver : ℕ) → giver < l.giver → GivesNone l.rules l.work.paths.items l.most l.work.plan (best_at l.best (group_of l.groups giver)).room giver
