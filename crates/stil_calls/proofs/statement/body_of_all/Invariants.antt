use Rattle.std.proofs.Common.{◌≡◌, ◌++◌, true, false, map, length}
use Rattle.std.specs.List.{list_any}
use Rattle.stil_calls.specs.Statements.{body_of}
use Rattle.stil_syntax.specs.Shapes.{shape_of, body_statements}
use Rattle.stil_calls.specs.Faults.{is_pattern_syntax}
use Rattle.stil_calls.proofs.statement.body_of_all.Given as goal

abbrev pub invariant-loop-statement : goal.invariant-loop-statement
invariant-loop-statement l = record {
  same : l.rows.items ++ map (body_of l.head l.line l.text) (body_statements l.rest) ≡ map (body_of l.head l.line l.text) (body_statements l.body);
  lines : l.lines ≡ l.text;
  once : list_any (λ s. is_pattern_syntax (shape_of l.head true s)) (body_statements l.rest) ≡ false;
}

abbrev pub decreases-loop-statement : goal.decreases-loop-statement
decreases-loop-statement l = length l.rest
