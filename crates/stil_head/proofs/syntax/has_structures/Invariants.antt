use Rattle.stil_head.proofs.syntax.has_structures.Given as goal
use Rattle.std.proofs.Common.{◌≡◌, length, codes}
use Rattle.std.specs.List.{list_any}
use Rattle.stil_syntax.specs.Shapes.{body_statements}
use Rattle.stil_blocks.specs.Statements.{has_word}

abbrev pub invariant-loop-s : goal.invariant-loop-s
invariant-loop-s l = list_any (has_word (codes "ScanStructures")) (body_statements l.rest) ≡ list_any (has_word (codes "ScanStructures")) (body_statements l.tokens)

abbrev pub decreases-loop-s : goal.decreases-loop-s
decreases-loop-s l = length l.rest
