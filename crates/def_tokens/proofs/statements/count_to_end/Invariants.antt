use Rattle.std.proofs.Common.{◌≡◌, ◌+◌, codes, length}
use Rattle.def_tokens.specs.DefStatements.{count_with}
use Rattle.def_tokens.proofs.statements.count_to_end.Given as goal

abbrev pub invariant-loop-token : goal.invariant-loop-token
invariant-loop-token l = record { same : l.count + count_with (codes ";") l.tokens ≡ count_with (codes ";") l.fn.tokens; within : l.count + length l.tokens ≡ length l.fn.tokens }

abbrev pub decreases-loop-token : goal.decreases-loop-token
decreases-loop-token l = length l.tokens
