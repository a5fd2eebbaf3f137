use Rattle.std.proofs.Common.{length}
use Rattle.stil_reader.specs.Reading.{IsSoFar}
use Rattle.stil_reader.proofs.read.read_patterns.Given as goal

abbrev pub invariant-loop-reading : goal.invariant-loop-reading
invariant-loop-reading l = IsSoFar l.judging l.head l.bytes l.reading l.rest

abbrev pub decreases-loop-reading : goal.decreases-loop-reading
decreases-loop-reading l = length l.rest
