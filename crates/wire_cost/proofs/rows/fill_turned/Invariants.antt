use Rattle.std.proofs.Common.{◌≡◌, ℕ, pos, ◌+◌, ◌<◌, length, get_or}
use Rattle.std.specs.Prelude.{◌-ℤ◌}
use Rattle.wire_cost.proofs.rows.fill_turned.Given as goal

abbrev pub invariant-loop-k : goal.invariant-loop-k
invariant-loop-k l = record {
  count : length l.turned ≡ length l.fn.turned;
  each : (j : ℕ) → j < l.k → get_or l.turned j (pos 0) ≡ get_or l.backward (j + 1) (pos 0) -ℤ get_or l.forward (j + 2) (pos 0);
}
