use Rattle.std.proofs.Common.{◌≡◌, drop}
use Rattle.path_links.specs.Erasure.{has_name}
use Rattle.path_links.proofs.sinks.Sinks.has_port.Given as goal

abbrev pub invariant-loop-port : goal.invariant-loop-port
invariant-loop-port l = has_name (drop l.port-index l.self.ports) l.name ≡ has_name l.self.ports l.name
