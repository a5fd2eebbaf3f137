use Rattle.std.proofs.Common.{length}
use Rattle.stil_calls.specs.Reaches.{Reaching}
use Rattle.stil_calls.specs.Repeats.{repeats_from, repeats_of}
use Rattle.stil_calls.proofs.repeats.reach_of.Given as goal

abbrev pub invariant-loop-repeat : goal.invariant-loop-repeat
invariant-loop-repeat l = Reaching l.now.before l.now.reach (repeats_from l.repeats.escape l.repeats.bytes.now) (repeats_of l.bytes)

abbrev pub decreases-loop-repeat : goal.decreases-loop-repeat
decreases-loop-repeat l = length l.repeats.bytes.now
