use Rattle.std.proofs.Common.{◌≡◌, ◌++◌, take}
use Rattle.std.specs.List.{flat_map}
use Rattle.def_edit.specs.Lookups.{rows_of}
use Rattle.def_edit.specs.Pushed.{pin_moved}
use Rattle.def_edit.proofs.pins.push_pins.Given as goal

abbrev pub invariant-loop-pin : goal.invariant-loop-pin
invariant-loop-pin l = l.out.items ≡ l.fn.out.items ++ flat_map (pin_moved l.by.bytes.now (rows_of l.by.bytes.now l.by.nets.items) l.by.design.now.nets l.by.moves.now) (take l.pin-index l.pins)
