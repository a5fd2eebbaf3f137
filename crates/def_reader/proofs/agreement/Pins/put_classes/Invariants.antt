use Rattle.std.proofs.Common.{◌≡◌, take}
use Rattle.std.specs.List.{filter_map}
use Rattle.def_reader.specs.Classes.{class_of}
use Rattle.def_reader.proofs.agreement.Pins.put_classes.Given as goal

abbrev pub invariant-loop-pin : goal.invariant-loop-pin
invariant-loop-pin l = l.found.items ≡ filter_map (class_of l.self l.classes) (take l.pin-index l.net.pins)
