use Rattle.std.proofs.Common.{◌≡◌, ℕ, pos, ◌+◌, ◌<◌, length, get_or, slice_get}
use Rattle.wire_cost.specs.Rows.{x_of, y_of}
use Rattle.wire_cost.proofs.rows.fill_places.Given as goal

abbrev pub invariant-loop-k : goal.invariant-loop-k
invariant-loop-k l = record {
  x_count : length l.xs ≡ length l.fn.xs;
  y_count : length l.ys ≡ length l.fn.ys;
  x : (j : ℕ) → j < l.k → get_or l.xs (l.from + j) (pos 0) ≡ x_of (slice_get l.points (get_or l.units j 0));
  y : (j : ℕ) → j < l.k → get_or l.ys (l.from + j) (pos 0) ≡ y_of (slice_get l.points (get_or l.units j 0));
  x_before : (j : ℕ) → j < l.from → get_or l.xs j (pos 0) ≡ get_or l.fn.xs j (pos 0);
  y_before : (j : ℕ) → j < l.from → get_or l.ys j (pos 0) ≡ get_or l.fn.ys j (pos 0);
}
