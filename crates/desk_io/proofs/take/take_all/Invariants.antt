use Rattle.std.proofs.Common.{◌≤◌, ◌-◌, length}
use Rattle.desk_io.specs.Desk.{SameElsewhere, SameNames}
use Rattle.desk_io.specs.Prefixes.{HasTaken}
use Rattle.desk_io.proofs.take.take_all.Given as goal

abbrev pub invariant-loop-bytes : goal.invariant-loop-bytes
invariant-loop-bytes g l = record {
  taken : HasTaken l.bytes.items (g.D.Desk.state l.fn.desk l.slot) (g.D.Desk.state l.desk l.slot);
  small : length l.bytes.items ≤ l.limit;
  elsewhere : SameElsewhere l.slot (g.D.Desk.state l.fn.desk) (g.D.Desk.state l.desk);
  names : SameNames (g.D.Desk.allows l.fn.desk) (g.D.Desk.allows l.desk);
}

abbrev pub decreases-loop-bytes : goal.decreases-loop-bytes
decreases-loop-bytes g l = l.limit - length l.bytes.items
