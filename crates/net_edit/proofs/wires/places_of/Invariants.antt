use Rattle.std.proofs.Common.{take}
use Rattle.net_edit.specs.NewWires.{HasPlaces}
use Rattle.net_edit.proofs.wires.places_of.Given as goal

abbrev pub invariant-loop-place : goal.invariant-loop-place
invariant-loop-place l = HasPlaces (take l.place l.freed) l.places
