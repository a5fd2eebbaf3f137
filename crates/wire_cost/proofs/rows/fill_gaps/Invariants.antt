use Rattle.std.proofs.Common.{◌≡◌, ℕ, pos, ◌+◌, ◌<◌, length, get_or}
use Rattle.std.specs.Prelude.{◌-ℤ◌}
use Rattle.wire_cost.proofs.rows.fill_gaps.Given as goal

abbrev pub invariant-loop-k : goal.invariant-loop-k
invariant-loop-k l = record {
  count : length l.gaps ≡ length l.fn.gaps;
  each : (j : ℕ) → j < l.k → get_or l.gaps j (pos 0) ≡ get_or l.forward j (pos 0) -ℤ get_or l.forward (j + 1) (pos 0);
}
