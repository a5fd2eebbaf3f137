use Rattle.std.proofs.Common.{◌≡◌, ◌≤◌, length}
use Rattle.stil_syntax.specs.Shapes.{body_statements}
use Rattle.stil_syntax.proofs.loops.body_statement.Given as goal

abbrev pub invariant-loop-statement : goal.invariant-loop-statement
invariant-loop-statement l = record { same : body_statements l.tokens ≡ body_statements l.fn.tokens; shorter : length l.tokens ≤ length l.fn.tokens }

abbrev pub decreases-loop-statement : goal.decreases-loop-statement
decreases-loop-statement l = length l.tokens
