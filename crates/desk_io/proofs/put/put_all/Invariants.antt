use Rattle.std.proofs.Common.{◌≡◌, List, [], ℕ, ◌++◌, length}
use Rattle.desk_io.specs.Desk.{SameElsewhere, SameNames}
use Rattle.desk_io.specs.Prefixes.{HasPut}
use Rattle.desk_io.proofs.put.put_all.Given as goal

abbrev pub invariant-loop-rest : goal.invariant-loop-rest
invariant-loop-rest g l = (front : List ℕ) × (front ++ l.rest ≡ l.bytes) × HasPut front (g.D.Desk.state l.fn.desk l.slot) (g.D.Desk.state l.desk l.slot) × (l.bytes ≡ [] → l.desk ≡ l.fn.desk) × SameElsewhere l.slot (g.D.Desk.state l.fn.desk) (g.D.Desk.state l.desk) × SameNames (g.D.Desk.allows l.fn.desk) (g.D.Desk.allows l.desk)

abbrev pub decreases-loop-rest : goal.decreases-loop-rest
decreases-loop-rest g l = length l.rest
