use Rattle.std.proofs.Common.{take}
use Rattle.def_reader.specs.Faults.{connection_rows}
use Rattle.def_reader.specs.SeenConnections.{IsSeenPins}
use Rattle.def_reader.proofs.connections.least_connection.Given as goal

abbrev pub invariant-loop-net : goal.invariant-loop-net
invariant-loop-net l = IsSeenPins l.seen (connection_rows (take l.net-index l.nets))
