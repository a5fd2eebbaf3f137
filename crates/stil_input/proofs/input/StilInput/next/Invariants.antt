use Rattle.desk_io.specs.declared.slot.Slot.TheVariants.{Stil}
use Rattle.desk_io.specs.Desk.{SameElsewhere, SameNames}
use Rattle.stil_input.proofs.Drawn.{HasCome, room}
use Rattle.stil_input.proofs.input.StilInput.next.Given as goal

abbrev pub invariant-loop-self : goal.invariant-loop-self
invariant-loop-self g l = record {
  come : HasCome l.fn.self l.self (g.D.Desk.state l.fn.desk Stil) (g.D.Desk.state l.desk Stil);
  elsewhere : SameElsewhere Stil (g.D.Desk.state l.fn.desk) (g.D.Desk.state l.desk);
  names : SameNames (g.D.Desk.allows l.fn.desk) (g.D.Desk.allows l.desk);
}

abbrev pub decreases-loop-self : goal.decreases-loop-self
decreases-loop-self g l = room l.self
