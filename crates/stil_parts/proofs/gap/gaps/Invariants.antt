use Rattle.std.proofs.Common.{◌-◌, ◌+◌, ◌<◌, ◌≤◌, length}
use Rattle.stil_parts.specs.Coming.{GapsCome, most}
use Rattle.stil_parts.proofs.gap.gaps.Given as goal

abbrev pub invariant-loop-at : goal.invariant-loop-at
invariant-loop-at l = record {
  some : 0 < l.at;
  within : l.at ≤ length l.bytes;
  fits : l.point.given + l.at ≤ most;
  comes : GapsCome l.point l.bytes l.at l.place l.comment;
}

abbrev pub decreases-loop-at : goal.decreases-loop-at
decreases-loop-at l = length l.bytes - l.at
