use Rattle.std.proofs.Common.{◌≡◌, ℕ, pos, ◌<◌, length, get_or}
use Rattle.wire_cost.specs.Rows.{middle_of}
use Rattle.wire_cost.proofs.blocks.fill_middles.Given as goal

abbrev pub invariant-loop-b : goal.invariant-loop-b
invariant-loop-b l = record {
  x_count : length l.middle_x ≡ length l.fn.middle_x;
  y_count : length l.middle_y ≡ length l.fn.middle_y;
  x : (k : ℕ) → k < l.b → get_or l.middle_x k (pos 0) ≡ get_or l.xs (middle_of l.units k) (pos 0);
  y : (k : ℕ) → k < l.b → get_or l.middle_y k (pos 0) ≡ get_or l.ys (middle_of l.units k) (pos 0);
}
