use Rattle.std.proofs.Common.{length}
use Rattle.def_tokens.proofs.Taken.{Taken}
use Rattle.def_tokens.proofs.statements.def_statements.Given as goal

abbrev pub invariant-loop-left : goal.invariant-loop-left
invariant-loop-left l = Taken l.text l.left l.statements

abbrev pub decreases-loop-left : goal.decreases-loop-left
decreases-loop-left l = length l.left
