use Rattle.std.proofs.Common.{◌≡◌, take}
use Rattle.std.specs.HashMap.{get}
use Rattle.std.specs.Option.{option_or}
use Rattle.net_edit.specs.Applied.{PinKey, same_pin, pin_put}
use Rattle.net_edit.proofs.puts.put_pins.Given as goal

abbrev pub invariant-loop-edit : goal.invariant-loop-edit
invariant-loop-edit l = (q : PinKey) → get same_pin l.puts q ≡ option_or (get same_pin l.fn.puts q) (pin_put l.netlist l.table (take l.edit-index l.pins) q.0 q.1.now)
