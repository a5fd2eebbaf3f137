use Rattle.std.proofs.Common.{◌≡◌, length}
use Rattle.stil_syntax.specs.Shapes.{behind_brace}
use Rattle.stil_syntax.proofs.loops.behind_brace.Given as goal

abbrev pub invariant-loop-token : goal.invariant-loop-token
invariant-loop-token l = behind_brace l.rest ≡ behind_brace l.tokens

abbrev pub decreases-loop-token : goal.decreases-loop-token
decreases-loop-token l = length l.rest
