use Rattle.std.proofs.Common.{◌≡◌, drop}
use Rattle.std.specs.List.{find}
use Rattle.std.specs.Str.{bytes_eq}
use Rattle.netlist_core.proofs.pins.net_of.Given as goal

abbrev pub invariant-loop-connection : goal.invariant-loop-connection
invariant-loop-connection l =
    find (λ connection. bytes_eq connection.pin l.pin) (drop l.connection-index l.connection-items) ≡ find (λ connection. bytes_eq connection.pin l.pin) l.connection-items
