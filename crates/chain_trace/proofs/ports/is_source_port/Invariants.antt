use Rattle.std.proofs.Common.{◌≡◌, ◌==◌, ◌&&◌, drop}
use Rattle.std.specs.List.{list_any}
use Rattle.chain_trace.specs.Paths.{drives}
use Rattle.chain_trace.proofs.ports.is_source_port.Given as goal

abbrev pub invariant-loop-port : goal.invariant-loop-port
invariant-loop-port l =
    list_any (λ port. port.net.0 == l.net.0 && drives port.direction) (drop l.port-index l.port-items) ≡ list_any (λ port. port.net.0 == l.net.0 && drives port.direction) l.port-items
