use Rattle.std.proofs.Common.{◌≡◌, ◌+◌, ◌≤◌, length}
use Rattle.stil_tokens.specs.StilStatements.{closed_in, is_closed}
use Rattle.stil_tokens.proofs.statements.is_closed.Given as goal

abbrev pub invariant-loop-token : goal.invariant-loop-token
invariant-loop-token l =
    record { same : closed_in l.closed l.depth l.rest ≡ is_closed l.tokens; shallow : l.depth + length l.rest ≤ length l.tokens }

abbrev pub decreases-loop-token : goal.decreases-loop-token
decreases-loop-token l = length l.rest
