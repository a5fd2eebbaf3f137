use Rattle.std.proofs.Common.{◌≡◌, List, take, flat_map}
use Rattle.std.specs.List.{zip}
use Rattle.net_edit.specs.Changes.{Change}
use Rattle.net_edit.specs.NewWires.{HasPlaces, wired_tail}
use Rattle.net_edit.proofs.between.tails_of.Given as goal

abbrev pub invariant-loop-i : goal.invariant-loop-i
invariant-loop-i l = (fs : List Change) → HasPlaces fs l.places → l.tails ≡ flat_map (wired_tail l.netlist l.table fs) (zip (take l.i l.freed) (take l.i l.numbers))
