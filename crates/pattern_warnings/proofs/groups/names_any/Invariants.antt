use Rattle.std.proofs.Common.{length}
use Rattle.pattern_warnings.proofs.groups.names_any.Given as goal

abbrev pub invariant-loop-reference : goal.invariant-loop-reference
invariant-loop-reference l = Unit {0}

abbrev pub decreases-loop-reference : goal.decreases-loop-reference
decreases-loop-reference l = length l.references.rest.now
