use Rattle.std.proofs.Common.{ℕ, ◌-◌, ◌<◌, ◌≤◌, ◌≤ℤ◌, length}
use Rattle.lane_kernels.specs.Kernels.{sum_at}
use Rattle.lane_kernels.proofs.gain.first_gain.Given as goal

abbrev pub invariant-loop-at : goal.invariant-loop-at
invariant-loop-at l = record {
  within : l.at ≤ length l.ex;
  passed : (j : ℕ) → j < l.at → l.aim.limit ≤ℤ sum_at l.aim.px l.aim.py l.aim.qx l.aim.qy l.ex l.ey l.nx l.ny l.c j;
}

abbrev pub decreases-loop-at : goal.decreases-loop-at
decreases-loop-at l = length l.ex - l.at

abbrev pub invariant-loop-at-2 : goal.invariant-loop-at-2
invariant-loop-at-2 l = record {
  within : l.at ≤ length l.ex;
  passed : (j : ℕ) → j < l.at → l.aim.limit ≤ℤ sum_at l.aim.px l.aim.py l.aim.qx l.aim.qy l.ex l.ey l.nx l.ny l.c j;
}

abbrev pub decreases-loop-at-2 : goal.decreases-loop-at-2
decreases-loop-at-2 l = length l.ex - l.at
