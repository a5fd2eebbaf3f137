use Rattle.std.proofs.Common.{◌≡◌, drop}
use Rattle.lef_pins.specs.Places.{rect_of}
use Rattle.lef_pins.proofs.place.rect_of.Given as goal

abbrev pub invariant-loop-pin : goal.invariant-loop-pin
invariant-loop-pin l = rect_of (drop l.pin-index l.pins) l.name ≡ rect_of l.pins l.name
