use Rattle.std.proofs.Common.{◌≡◌, ℕ, List, Option, map, take}
use Rattle.netlist_core.specs.declared.netlist.NetId.{NetId}
use Rattle.net_edit.specs.Applied.{HasPuts, put_connection}
use Rattle.net_edit.proofs.applied.put_connections.Given as goal

abbrev pub invariant-loop-connection : goal.invariant-loop-connection
invariant-loop-connection l = (at : ℕ → List ℕ → Option NetId) → HasPuts at l.puts → l.copies ≡ map (put_connection at l.instance) (take l.connection-index l.connections)
