use Rattle.std.proofs.Common.{◌≡◌, length}
use Rattle.cell_table.specs.Cells.{Cells}
use Rattle.chain_trace.specs.Drivers.{AreDrivers, AreEntries, IsDone}
use Rattle.chain_trace.proofs.drivers.drivers_of.Given as goal

abbrev pub invariant-loop-i : goal.invariant-loop-i
invariant-loop-i l = record {
  count : length l.drivers.items ≡ length l.netlist.nets;
  drivers : (cells : Cells) → AreEntries l.netlist cells l.entries → AreDrivers l.netlist cells l.classes (IsDone l.netlist (length l.netlist.ports) l.i 0 0) l.drivers.items;
}
