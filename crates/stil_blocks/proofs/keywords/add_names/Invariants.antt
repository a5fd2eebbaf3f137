use Rattle.stil_blocks.proofs.keywords.add_names.Given as goal
use Rattle.std.proofs.Common.{◌≡◌, ◌++◌, length}
use Rattle.stil_blocks.specs.Callees.{names_within}

abbrev pub invariant-loop-left : goal.invariant-loop-left
invariant-loop-left l = l.names ++ names_within l.left l.rest ≡ l.fn.names ++ names_within (length l.tokens) l.tokens

abbrev pub decreases-loop-left : goal.decreases-loop-left
decreases-loop-left l = l.left
