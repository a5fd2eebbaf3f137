use Rattle.stil_blocks.proofs.callee.holds_shift.Given as goal
use Rattle.std.proofs.Common.{◌≡◌, length}
use Rattle.stil_blocks.specs.Callees.{begins_shift, holds, holds_shift}

abbrev pub invariant-loop-rest : goal.invariant-loop-rest
invariant-loop-rest l = holds begins_shift l.begins l.rest ≡ holds_shift l.body

abbrev pub decreases-loop-rest : goal.decreases-loop-rest
decreases-loop-rest l = length l.rest
