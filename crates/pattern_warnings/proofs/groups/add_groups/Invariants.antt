use Rattle.std.proofs.Common.{length}
use Rattle.pattern_warnings.proofs.groups.add_groups.Given as goal

abbrev pub invariant-loop-statement : goal.invariant-loop-statement
invariant-loop-statement l = Unit {0}

abbrev pub decreases-loop-statement : goal.decreases-loop-statement
decreases-loop-statement l = length l.rest
