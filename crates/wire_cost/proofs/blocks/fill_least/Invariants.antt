use Rattle.std.proofs.Common.{◌≡◌, ℕ, pos, ◌+◌, ◌*◌, ◌<◌, min, length, get_or}
use Rattle.wire_cost.specs.Blocks.{IsLeastIn}
use Rattle.wire_cost.specs.Rows.{middle_of}
use Rattle.wire_cost.proofs.blocks.fill_least.Given as goal

abbrev pub invariant-loop-b : goal.invariant-loop-b
invariant-loop-b l = record {
  count : length l.slack ≡ length l.fn.slack;
  each : (k : ℕ) → k < l.b → IsLeastIn l.xs l.ys l.turned (middle_of (length l.turned) k) (32 * k) (min (32 * k + 32) (length l.turned)) (get_or l.slack k (pos 0));
}
