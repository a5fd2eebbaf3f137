use Rattle.std.proofs.Common.{◌≡◌, map, take}
use Rattle.def_reader.specs.Designs.{pin_of}
use Rattle.def_reader.proofs.convert.pins_of.Given as goal

abbrev pub invariant-loop-pin : goal.invariant-loop-pin
invariant-loop-pin l = l.pins ≡ map pin_of (take l.pin-index l.fn.statements)
