use Rattle.std.proofs.Common.{◌≡◌, ℕ, ◌<◌, get_or, true}
use Rattle.lane_kernels.specs.Kernels.{is_allowed}
use Rattle.lane_kernels.proofs.plain.any_byte_outside.Given as goal

abbrev pub invariant-loop-at : goal.invariant-loop-at
invariant-loop-at l = (j : ℕ) → j < l.at → is_allowed l.allowed (get_or l.bytes j 0) ≡ true
