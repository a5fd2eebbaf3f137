use Rattle.std.proofs.Common.{◌≡◌, take}
use Rattle.def_reader.specs.Designs.{net_pins_of}
use Rattle.def_reader.proofs.convert.net_pins_of.Given as goal

abbrev pub invariant-loop-connection : goal.invariant-loop-connection
invariant-loop-connection l = l.pins ≡ net_pins_of l.text (take l.connection-index l.connections)
