use Rattle.stil_head.proofs.marks.has_outer_mark.Given as goal
use Rattle.std.proofs.Common.{◌≡◌, ◌≤◌, ◌+◌, length, true, false}
use Rattle.stil_head.specs.Unsupported.{has_outer_mark, shift_depth}
use Rattle.stil_head.specs.declared.shift.InShift.TheVariants.{Outside}

abbrev pub invariant-loop-rest : goal.invariant-loop-rest
invariant-loop-rest l = record { same : has_outer_mark l.place l.begins l.assigns l.rest ≡ has_outer_mark Outside true false l.tokens; shallow : shift_depth l.place + length l.rest ≤ length l.tokens }

abbrev pub decreases-loop-rest : goal.decreases-loop-rest
decreases-loop-rest l = length l.rest
