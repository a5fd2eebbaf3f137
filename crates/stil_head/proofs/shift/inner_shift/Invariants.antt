use Rattle.stil_head.proofs.shift.inner_shift.Given as goal
use Rattle.std.proofs.Common.{◌≡◌, length, false}
use Rattle.list_laws.specs.Leasts.{lesser, least_of}
use Rattle.stil_head.specs.Unsupported.{places_at}
use Rattle.stil_blocks.specs.Callees.{begins_shift}

abbrev pub invariant-loop-rest : goal.invariant-loop-rest
invariant-loop-rest l = lesser l.least (least_of (places_at begins_shift l.begins l.rest)) ≡ least_of (places_at begins_shift false l.s)

abbrev pub decreases-loop-rest : goal.decreases-loop-rest
decreases-loop-rest l = length l.rest
