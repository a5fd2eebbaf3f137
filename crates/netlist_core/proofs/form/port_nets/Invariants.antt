use Rattle.std.proofs.Common.{◌≡◌, map, take}
use Rattle.netlist_core.proofs.form.port_nets.Given as goal

abbrev pub invariant-loop-port : goal.invariant-loop-port
invariant-loop-port l = l.nets.items ≡ map (λ port. port.net.0) (take l.port-index l.ports)
