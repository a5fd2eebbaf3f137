use Rattle.stil_blocks.proofs.cells.cells_at.Given as goal
use Rattle.std.proofs.Common.{◌≡◌}
use Rattle.stil_blocks.specs.Chains.{cells_within, cells_at}

abbrev pub invariant-loop-left : goal.invariant-loop-left
invariant-loop-left l = cells_within l.left l.list l.rest ≡ cells_at l.tokens

abbrev pub decreases-loop-left : goal.decreases-loop-left
decreases-loop-left l = l.left
