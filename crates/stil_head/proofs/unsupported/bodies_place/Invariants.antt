use Rattle.stil_head.proofs.unsupported.bodies_place.Given as goal
use Rattle.std.proofs.Common.{◌≡◌, length}
use Rattle.stil_syntax.specs.Shapes.{body_statements}
use Rattle.list_laws.specs.Leasts.{lesser, least_of}
use Rattle.stil_head.specs.Unsupported.{bodies_places, is_name_of}

abbrev pub invariant-loop-s : goal.invariant-loop-s
invariant-loop-s l = lesser l.least (least_of (bodies_places (is_name_of l.names.procedures) (is_name_of l.names.macros) (body_statements l.rest))) ≡ least_of (bodies_places (is_name_of l.names.procedures) (is_name_of l.names.macros) (body_statements l.block))

abbrev pub decreases-loop-s : goal.decreases-loop-s
decreases-loop-s l = length l.rest
