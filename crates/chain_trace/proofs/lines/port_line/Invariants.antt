use Rattle.std.proofs.Common.{◌≡◌, ◌==◌, drop}
use Rattle.std.specs.List.{find}
use Rattle.chain_trace.proofs.lines.port_line.Given as goal

abbrev pub invariant-loop-port : goal.invariant-loop-port
invariant-loop-port l = find (λ port. port.net.0 == l.net.0) (drop l.port-index l.port-items) ≡ find (λ port. port.net.0 == l.net.0) l.port-items
