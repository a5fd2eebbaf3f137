use Rattle.desk_io.specs.Desk.{SameNames}
use Rattle.desk_io.specs.Outputs.{HasPutOutputs}
use Rattle.desk_io.proofs.outputs.put_outputs.Given as goal

abbrev pub invariant-loop-at : goal.invariant-loop-at
invariant-loop-at g l = record {
  put : HasPutOutputs l.names l.outputs l.at (g.D.Desk.state l.fn.desk) (g.D.Desk.state l.desk);
  same_names : SameNames (g.D.Desk.allows l.fn.desk) (g.D.Desk.allows l.desk);
}
