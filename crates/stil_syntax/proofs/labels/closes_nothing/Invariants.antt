use Rattle.std.proofs.Common.{◌≡◌, ◌+◌, ◌≤◌, length}
use Rattle.stil_syntax.specs.Shapes.{closes_nothing}
use Rattle.stil_syntax.proofs.labels.closes_nothing.Given as goal

abbrev pub invariant-loop-token : goal.invariant-loop-token
invariant-loop-token l = record { same : closes_nothing l.depth l.rest ≡ closes_nothing 0 l.tokens; shallow : l.depth + length l.rest ≤ length l.tokens }

abbrev pub decreases-loop-token : goal.decreases-loop-token
decreases-loop-token l = length l.rest
