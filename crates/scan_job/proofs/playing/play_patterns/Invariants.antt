use Rattle.desk_io.specs.declared.slot.Slot.TheVariants.{Stil}
use Rattle.desk_io.specs.Desk.{SameElsewhere, SameNames}
use Rattle.stil_input.specs.Inputs.{left}
use Rattle.scan_job.proofs.Played.{HasCome}
use Rattle.scan_job.proofs.playing.play_patterns.Given as goal

abbrev pub invariant-patterns : goal.invariant-patterns
invariant-patterns g l = record {
  come : HasCome l.fn.playing l.playing l.fn.input l.input (g.D.Desk.state l.fn.desk Stil) (g.D.Desk.state l.desk Stil);
  elsewhere : SameElsewhere Stil (g.D.Desk.state l.fn.desk) (g.D.Desk.state l.desk);
  names : SameNames (g.D.Desk.allows l.fn.desk) (g.D.Desk.allows l.desk);
}

abbrev pub decreases-patterns : goal.decreases-patterns
decreases-patterns g l = left l.input
