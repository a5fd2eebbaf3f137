use Rattle.std.proofs.Common.{◌≡◌, length}
use Rattle.stil_calls.specs.Faults.{body_fault}
use Rattle.stil_syntax.specs.Shapes.{body_statements}
use Rattle.stil_calls.proofs.faults.body_fault.Given as goal

abbrev pub invariant-loop-statement : goal.invariant-loop-statement
invariant-loop-statement l = record {
  same : body_fault l.judging l.head l.line l.text (body_statements l.rest) ≡ body_fault l.judging l.head l.line l.text (body_statements l.body);
  lines : l.lines ≡ l.text;
}

abbrev pub decreases-loop-statement : goal.decreases-loop-statement
decreases-loop-statement l = length l.rest
