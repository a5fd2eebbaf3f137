use Rattle.std.proofs.Common.{◌≤◌, ◌^◌}
use Rattle.std.specs.Prelude.{unsigned_abs}
use Rattle.wire_cost.specs.Blocks.{IsLeastIn}
use Rattle.wire_cost.proofs.blocks.least_slack.Given as goal

abbrev pub invariant-loop-unit : goal.invariant-loop-unit
invariant-loop-unit l = record {
  value : IsLeastIn l.xs l.ys l.turned l.middle l.from l.unit l.least;
  small : unsigned_abs l.least ≤ 2 ^ 62;
}
