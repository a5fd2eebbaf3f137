use Rattle.std.proofs.Common.{◌≡◌, false, take}
use Rattle.std.specs.List.{list_any}
use Rattle.chain_trace.specs.Named.{can_be}
use Rattle.chain_trace.proofs.Named.{is_port}
use Rattle.chain_trace.proofs.ports.port_named.Given as goal

abbrev pub invariant-loop-port : goal.invariant-loop-port
invariant-loop-port l = list_any (is_port (can_be l.end) l.netlist.nets l.name) (take l.port-index l.netlist.ports) ≡ false
