use Rattle.std.proofs.Common.{length}
use Rattle.pattern_warnings.proofs.groups.add_block.Given as goal

abbrev pub invariant-loop-group : goal.invariant-loop-group
invariant-loop-group l = Unit {0}

abbrev pub decreases-loop-group : goal.decreases-loop-group
decreases-loop-group l = length l.givens.lexer.spans
