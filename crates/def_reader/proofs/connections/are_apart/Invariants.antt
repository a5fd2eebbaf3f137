use Rattle.std.proofs.Common.{take}
use Rattle.def_reader.specs.Faults.{net_rows, connection_rows}
use Rattle.def_reader.specs.Hashes.{AreTold, IsNameHeld, IsPinHeld}
use Rattle.def_reader.proofs.connections.are_apart.Given as goal

abbrev pub invariant-loop-net : goal.invariant-loop-net
invariant-loop-net l = record {
  names : AreTold (IsNameHeld l.hashes) (net_rows (take l.net-index l.nets));
  rows : AreTold (IsPinHeld l.hashes) (connection_rows (take l.net-index l.nets));
}
