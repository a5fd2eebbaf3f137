use Rattle.std.proofs.Common.{◌≡◌, length}
use Rattle.cell_table.specs.Cells.{Cells}
use Rattle.chain_trace.specs.Drivers.{AreDrivers, IsDone}
use Rattle.chain_trace.proofs.drivers.put_ports.Given as goal

abbrev pub invariant-loop-port : goal.invariant-loop-port
invariant-loop-port l = record {
  count : length l.drivers.items ≡ length l.netlist.nets;
  drivers : (cells : Cells) → AreDrivers l.netlist cells l.classes (IsDone l.netlist 0 0 0 0) l.fn.drivers.items → AreDrivers l.netlist cells l.classes (IsDone l.netlist l.port-index 0 0 0) l.drivers.items;
}
