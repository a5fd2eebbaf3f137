use Rattle.stil_head.proofs.ends.head_len.Given as goal
use Rattle.std.proofs.Common.{◌≡◌, ◌≤◌, ◌-◌, length, drop, true}
use Rattle.stil_parts.specs.Heads.{head_end}
use Rattle.stil_parts.specs.declared.gap.Comment.TheVariants.{Outside}
use Rattle.stil_parts.proofs.HeadTurns.{behind}

abbrev pub invariant-loop-at : goal.invariant-loop-at
invariant-loop-at l = record { within : l.at ≤ length l.bytes; same : behind l.at (head_end true l.comment 0 (drop l.at l.bytes)) ≡ head_end true Outside 0 l.bytes }

abbrev pub decreases-loop-at : goal.decreases-loop-at
decreases-loop-at l = length l.bytes - l.at
