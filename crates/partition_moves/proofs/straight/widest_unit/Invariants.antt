use Rattle.std.proofs.Common.{ℕ, ◌^◌, ◌<◌, ◌≤◌, slice_get}
use Rattle.wire_cost.specs.Lengths.{link_of}
use Rattle.partition_moves.proofs.straight.widest_unit.Given as goal

abbrev pub invariant-loop-u : goal.invariant-loop-u
invariant-loop-u l = record {
  each : (k : ℕ) → k < l.u → link_of (slice_get l.ends.entry k) (slice_get l.ends.exit k) ≤ l.widest;
  small : l.widest ≤ 2 ^ 43;
}
