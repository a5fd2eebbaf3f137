use Rattle.stil_head.proofs.syntax.item_place.Given as goal
use Rattle.std.proofs.Common.{◌≡◌, length}
use Rattle.stil_syntax.specs.Shapes.{body_statements}
use Rattle.list_laws.specs.Leasts.{lesser, least_of}
use Rattle.stil_head.specs.Faults.{item_places}

abbrev pub invariant-loop-s : goal.invariant-loop-s
invariant-loop-s l = record { text : l.lines ≡ l.fn.lines; same : lesser l.least (least_of (item_places l.fn.lines (body_statements l.rest))) ≡ least_of (item_places l.fn.lines (body_statements l.block)) }

abbrev pub decreases-loop-s : goal.decreases-loop-s
decreases-loop-s l = length l.rest
