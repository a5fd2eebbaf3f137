use Rattle.std.proofs.Common.{◌≤◌, length}
use Rattle.pattern_warnings.proofs.references.References.next.Given as goal

abbrev pub invariant-loop-name : goal.invariant-loop-name
invariant-loop-name l = length l.self.rest.now ≤ length l.fn.self.rest.now

abbrev pub decreases-loop-name : goal.decreases-loop-name
decreases-loop-name l = length l.self.rest.now
