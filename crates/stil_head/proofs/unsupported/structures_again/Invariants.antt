use Rattle.stil_head.proofs.unsupported.structures_again.Given as goal
use Rattle.std.proofs.Common.{◌≡◌, length, false, codes}
use Rattle.stil_syntax.specs.Shapes.{body_statements}
use Rattle.list_laws.specs.Leasts.{lesser, least_of}
use Rattle.stil_head.specs.Unsupported.{later_places}
use Rattle.stil_blocks.specs.Statements.{has_word}

abbrev pub invariant-loop-s : goal.invariant-loop-s
invariant-loop-s l = lesser l.least (least_of (later_places (has_word (codes "ScanStructures")) l.seen (body_statements l.rest))) ≡ least_of (later_places (has_word (codes "ScanStructures")) false (body_statements l.tokens))

abbrev pub decreases-loop-s : goal.decreases-loop-s
decreases-loop-s l = length l.rest
