use Rattle.stil_head.proofs.syntax.callees_fault.Given as goal
use Rattle.std.proofs.Common.{◌≡◌, length}
use Rattle.std.specs.List.{flat_map}
use Rattle.stil_syntax.specs.Shapes.{body_statements}
use Rattle.list_laws.specs.Leasts.{lesser, least_of}
use Rattle.stil_head.specs.Faults.{callee_faults}

abbrev pub invariant-loop-s : goal.invariant-loop-s
invariant-loop-s l = lesser l.least (least_of (flat_map callee_faults (body_statements l.rest))) ≡ least_of (flat_map callee_faults (body_statements l.block))

abbrev pub decreases-loop-s : goal.decreases-loop-s
decreases-loop-s l = length l.rest
