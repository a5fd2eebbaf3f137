use Rattle.std.proofs.Common.{take}
use Rattle.def_edit.specs.Lookups.{HasPorts}
use Rattle.def_edit.proofs.pins.port_nets.Given as goal

abbrev pub invariant-loop-pin_move : goal.invariant-loop-pin_move
invariant-loop-pin_move l = HasPorts l.nets (take l.pin_move-index l.moves) l.ports
