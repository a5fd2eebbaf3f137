use Rattle.desk_io.specs.Desk.{SameSlots, SameNames}
use Rattle.scan_job.proofs.patterns.tell_warnings.Given as goal

abbrev pub invariant-loop-line : goal.invariant-loop-line
invariant-loop-line g l = record {
  slots : SameSlots (g.D.Desk.state l.fn.desk) (g.D.Desk.state l.desk);
  names : SameNames (g.D.Desk.allows l.fn.desk) (g.D.Desk.allows l.desk);
}
