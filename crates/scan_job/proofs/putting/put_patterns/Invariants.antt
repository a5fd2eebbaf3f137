use Rattle.desk_io.specs.declared.slot.Slot.TheVariants.{Stil, OutStil}
use Rattle.desk_io.specs.Desk.{SameNames}
use Rattle.stil_input.specs.Inputs.{left}
use Rattle.scan_job.specs.Retargeting.{SameBut}
use Rattle.scan_job.proofs.Retargeted.{HasWrittenSo}
use Rattle.scan_job.proofs.putting.put_patterns.Given as goal

abbrev pub invariant-patterns : goal.invariant-patterns
invariant-patterns g l = record {
  written : HasWrittenSo l.fn.head_text l.fn.retargeting l.retargeting l.fn.input l.input (g.D.Desk.state l.fn.desk Stil) (g.D.Desk.state l.desk Stil) (g.D.Desk.state l.fn.desk OutStil) (g.D.Desk.state l.desk OutStil);
  elsewhere : SameBut Stil OutStil (g.D.Desk.state l.fn.desk) (g.D.Desk.state l.desk);
  names : SameNames (g.D.Desk.allows l.fn.desk) (g.D.Desk.allows l.desk);
}

abbrev pub decreases-patterns : goal.decreases-patterns
decreases-patterns g l = left l.input
