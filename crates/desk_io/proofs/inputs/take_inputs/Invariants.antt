use Rattle.std.proofs.Common.{◌≡◌, length}
use Rattle.desk_io.specs.Desk.{SameNames}
use Rattle.desk_io.specs.Inputs.{HasTakenInputs}
use Rattle.desk_io.proofs.inputs.take_inputs.Given as goal

abbrev pub invariant-loop-at : goal.invariant-loop-at
invariant-loop-at g l = record {
  eight : length l.texts ≡ 8;
  taken : HasTakenInputs l.names l.at l.texts (g.D.Desk.state l.fn.desk) (g.D.Desk.state l.desk);
  same_names : SameNames (g.D.Desk.allows l.fn.desk) (g.D.Desk.allows l.desk);
}
