use Rattle.stil_head.proofs.unsupported.mark_count.Given as goal
use Rattle.std.proofs.Common.{◌≡◌, ◌≤◌, ◌+◌, length, false}
use Rattle.std.specs.List.{count_by}
use Rattle.stil_syntax.specs.Shapes.{body_statements}
use Rattle.stil_head.specs.Unsupported.{has_mark}

abbrev pub invariant-loop-s : goal.invariant-loop-s
invariant-loop-s l = record { same : l.count + count_by (has_mark false) (body_statements l.rest) ≡ count_by (has_mark false) (body_statements l.block); few : l.count + length l.rest ≤ length l.block }

abbrev pub decreases-loop-s : goal.decreases-loop-s
decreases-loop-s l = length l.rest
