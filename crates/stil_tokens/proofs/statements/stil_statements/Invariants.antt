use Rattle.std.proofs.Common.{length}
use Rattle.stil_tokens.proofs.Taken.{Taken}
use Rattle.stil_tokens.proofs.statements.stil_statements.Given as goal

abbrev pub invariant-loop-left : goal.invariant-loop-left
invariant-loop-left l = Taken l.bytes l.left l.statements.items

abbrev pub decreases-loop-left : goal.decreases-loop-left
decreases-loop-left l = length l.left
