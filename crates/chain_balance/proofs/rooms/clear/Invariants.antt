use Rattle.std.proofs.Common.{◌≡◌, ℕ, ◌<◌}
use Rattle.chain_balance.specs.Rooms.{best_at}
use Rattle.chain_balance.proofs.rooms.clear.Given as goal

abbrev pub invariant-loop-place : goal.invariant-loop-place
invariant-loop-place l = (k : ℕ) → k < l.place → (best_at l.best k).room ≡ 0
