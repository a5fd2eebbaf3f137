use Rattle.stil_head.proofs.shift.later_shift.Given as goal
use Rattle.std.proofs.Common.{◌≡◌, length, true, false}
use Rattle.list_laws.specs.Leasts.{lesser, least_of}
use Rattle.stil_head.specs.Unsupported.{later_shifts}

abbrev pub invariant-loop-rest : goal.invariant-loop-rest
invariant-loop-rest l = lesser l.least (least_of (later_shifts l.seen l.begins l.rest)) ≡ least_of (later_shifts false true l.body)

abbrev pub decreases-loop-rest : goal.decreases-loop-rest
decreases-loop-rest l = length l.rest
