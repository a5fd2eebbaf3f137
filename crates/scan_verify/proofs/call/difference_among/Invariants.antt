use Rattle.std.proofs.Common.{ℕ, ◌<◌}
use Rattle.scan_verify.specs.Sameness.{IsSameAt}
use Rattle.scan_verify.proofs.call.difference_among.Given as goal

abbrev pub invariant-loop-cell : goal.invariant-loop-cell
invariant-loop-cell l = (other : ℕ) → other < l.cell → IsSameAt l.map.0 l.map.1 l.a l.b other
