use Rattle.std.proofs.Common.{ℕ, ◌<◌, ◌≤ℤ◌}
use Rattle.lane_kernels.specs.Kernels.{sum_at}
use Rattle.lane_kernels.proofs.plain.first_gain.Given as goal

abbrev pub invariant-loop-k : goal.invariant-loop-k
invariant-loop-k l = (j : ℕ) → j < l.k → l.aim.limit ≤ℤ sum_at l.aim.px l.aim.py l.aim.qx l.aim.qy l.ex l.ey l.nx l.ny l.c j
