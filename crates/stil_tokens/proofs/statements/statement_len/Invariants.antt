use Rattle.std.proofs.Common.{◌≡◌, ◌+◌, ◌≤◌, length}
use Rattle.stil_tokens.specs.StilStatements.{len_in}
use Rattle.stil_tokens.proofs.statements.statement_len.Given as goal

abbrev pub invariant-loop-token : goal.invariant-loop-token
invariant-loop-token l =
    record { same : l.count + len_in l.depth l.rest ≡ len_in 0 l.tokens; within : l.count + length l.rest ≡ length l.tokens; shallow : l.depth ≤ l.count }

abbrev pub decreases-loop-token : goal.decreases-loop-token
decreases-loop-token l = length l.rest
