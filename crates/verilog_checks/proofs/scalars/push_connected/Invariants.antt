use Rattle.std.proofs.Common.{◌≡◌, ◌++◌, List, map, take}
use Rattle.std.specs.List.{flat_map, filter}
use Rattle.verilog_names.specs.Declarations.{Declaration, connection_items, mentions_of, undeclared_in}
use Rattle.verilog_checks.specs.Seen.{AreClosed, is_bracketed}
use Rattle.verilog_checks.proofs.scalars.push_connected.Given as goal

abbrev pub invariant-loop-connection : goal.invariant-loop-connection
invariant-loop-connection l = (ds : List Declaration) → AreClosed l.closed ds
    → map (λ name. name.now) l.names.items ≡ map (λ name. name.now) l.initial.names.items ++ filter is_bracketed (undeclared_in ds (flat_map mentions_of (connection_items (take l.connection-index l.connections))))
