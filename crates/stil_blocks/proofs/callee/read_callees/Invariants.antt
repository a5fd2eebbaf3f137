use Rattle.stil_blocks.proofs.callee.read_callees.Given as goal
use Rattle.std.proofs.Common.{◌≡◌, ◌++◌, length}
use Rattle.std.specs.List.{flat_map}
use Rattle.stil_syntax.specs.Shapes.{body_statements}
use Rattle.stil_blocks.specs.Callees.{block_callees}

abbrev pub invariant-loop-s : goal.invariant-loop-s
invariant-loop-s l = l.callees ++ flat_map (block_callees l.word) (body_statements l.rest) ≡ flat_map (block_callees l.word) (body_statements l.tokens)

abbrev pub decreases-loop-s : goal.decreases-loop-s
decreases-loop-s l = length l.rest
