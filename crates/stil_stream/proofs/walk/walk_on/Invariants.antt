use Rattle.std.proofs.Common.{length, ◌-◌, drop}
use Rattle.stil_parts.specs.declared.gap.Place.TheVariants.{Top}
use Rattle.stil_parts.specs.Resuming.{Resumes}
use Rattle.stil_stream.specs.Walks.{IsPassed}
use Rattle.stil_stream.proofs.walk.walk_on.Given as goal

abbrev pub invariant-loop-now : goal.invariant-loop-now
invariant-loop-now l = record {
  passed : IsPassed l.bytes l.now.passed l.now.comment;
  resumes : Resumes Top (drop l.now.passed l.bytes) l.now.done l.now.scan;
}

abbrev pub decreases-loop-now : goal.decreases-loop-now
decreases-loop-now l = length l.bytes - l.now.passed
