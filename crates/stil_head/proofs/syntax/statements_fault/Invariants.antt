use Rattle.stil_head.proofs.syntax.statements_fault.Given as goal
use Rattle.std.proofs.Common.{◌≡◌, length}
use Rattle.std.specs.List.{flat_map}
use Rattle.stil_syntax.specs.Shapes.{body_statements}
use Rattle.list_laws.specs.Leasts.{lesser, least_of}
use Rattle.stil_head.specs.Faults.{statement_faults}

abbrev pub invariant-loop-s : goal.invariant-loop-s
invariant-loop-s l = record { text : l.lines ≡ l.fn.lines; same : lesser l.least (least_of (flat_map (statement_faults l.fn.lines) (body_statements l.rest))) ≡ least_of (flat_map (statement_faults l.fn.lines) (body_statements l.tokens)) }

abbrev pub decreases-loop-s : goal.decreases-loop-s
decreases-loop-s l = length l.rest
