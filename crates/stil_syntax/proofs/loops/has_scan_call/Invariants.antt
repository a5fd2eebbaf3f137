use Rattle.std.proofs.Common.{◌≡◌, length}
use Rattle.std.specs.List.{list_any}
use Rattle.stil_tokens.specs.StilStatements.{stil_statements}
use Rattle.stil_syntax.specs.Shapes.{is_scan_call}
use Rattle.stil_syntax.proofs.loops.has_scan_call.Given as goal

abbrev pub invariant-loop-statement : goal.invariant-loop-statement
invariant-loop-statement l = list_any (is_scan_call l.head) (stil_statements l.rest) ≡ list_any (is_scan_call l.head) (stil_statements l.tokens)

abbrev pub decreases-loop-statement : goal.decreases-loop-statement
decreases-loop-statement l = length l.rest
