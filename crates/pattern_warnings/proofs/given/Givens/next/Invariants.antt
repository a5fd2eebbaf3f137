use Rattle.std.proofs.Common.{◌≤◌, length}
use Rattle.pattern_warnings.proofs.given.Givens.next.Given as goal

abbrev pub invariant-loop-token : goal.invariant-loop-token
invariant-loop-token l = length l.self.lexer.spans ≤ length l.fn.self.lexer.spans

abbrev pub decreases-loop-token : goal.decreases-loop-token
decreases-loop-token l = length l.self.lexer.spans
