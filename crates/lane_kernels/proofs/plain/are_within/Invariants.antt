use Rattle.std.proofs.Common.{ℕ, pos, ◌<◌, ◌≤◌, get_or, unsigned_abs}
use Rattle.lane_kernels.proofs.plain.are_within.Given as goal

abbrev pub invariant-loop-x : goal.invariant-loop-x
invariant-loop-x l = (k : ℕ) → k < l.x-index → unsigned_abs (get_or l.xs k (pos 0)) ≤ l.most
