use Rattle.std.proofs.Common.{take}
use Rattle.path_numbers.specs.Extras.{AreExtras}
use Rattle.path_numbers.proofs.extras.names_of.Given as goal

abbrev pub invariant-loop-pin : goal.invariant-loop-pin
invariant-loop-pin l = AreExtras (take l.pin-index l.pins) l.names.items
