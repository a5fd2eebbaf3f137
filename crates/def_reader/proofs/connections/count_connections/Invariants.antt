use Rattle.std.proofs.Common.{◌≡◌, take, length, min}
use Rattle.std.specs.Prelude.{◌-◌, ◌^◌}
use Rattle.def_reader.specs.Faults.{connection_rows}
use Rattle.def_reader.proofs.connections.count_connections.Given as goal

abbrev pub invariant-loop-net : goal.invariant-loop-net
invariant-loop-net l = l.count ≡ min (length (connection_rows (take l.net-index l.nets))) (2 ^ 64 - 1)
