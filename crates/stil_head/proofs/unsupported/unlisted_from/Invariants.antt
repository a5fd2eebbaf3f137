use Rattle.stil_head.proofs.unsupported.unlisted_from.Given as goal
use Rattle.std.proofs.Common.{◌≡◌, length}
use Rattle.stil_syntax.specs.Shapes.{body_statements}
use Rattle.list_laws.specs.Leasts.{lesser, least_of}
use Rattle.stil_head.specs.Unsupported.{unlisted_in}

abbrev pub invariant-loop-s : goal.invariant-loop-s
invariant-loop-s l = lesser l.least (least_of (unlisted_in (body_statements l.rest))) ≡ least_of (unlisted_in (body_statements l.fn.rest))

abbrev pub decreases-loop-s : goal.decreases-loop-s
decreases-loop-s l = length l.rest
