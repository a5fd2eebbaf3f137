use Rattle.stil_blocks.proofs.keywords.read_keywords.Given as goal
use Rattle.std.proofs.Common.{◌≡◌, ◌++◌, length}
use Rattle.std.specs.List.{flat_map}
use Rattle.stil_syntax.specs.Shapes.{body_statements}
use Rattle.stil_blocks.specs.Callees.{statement_keywords}

abbrev pub invariant-loop-s : goal.invariant-loop-s
invariant-loop-s l = l.names ++ flat_map statement_keywords (body_statements l.rest) ≡ flat_map statement_keywords (body_statements l.tokens)

abbrev pub decreases-loop-s : goal.decreases-loop-s
decreases-loop-s l = length l.rest
