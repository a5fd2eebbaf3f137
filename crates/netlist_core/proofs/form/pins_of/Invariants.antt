use Rattle.std.proofs.Common.{◌≡◌, map, take}
use Rattle.netlist_core.proofs.form.pins_of.Given as goal

abbrev pub invariant-loop-connection : goal.invariant-loop-connection
invariant-loop-connection l = map (λ pin. pin.now) l.pins.items ≡ map (λ connection. connection.pin) (take l.connection-index l.connections)
