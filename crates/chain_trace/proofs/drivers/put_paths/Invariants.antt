use Rattle.std.proofs.Common.{◌≡◌, ℕ, length}
use Rattle.cell_table.specs.Cells.{Cells}
use Rattle.chain_trace.specs.Drivers.{AreDrivers, IsDone, HasEntries}
use Rattle.chain_trace.proofs.drivers.put_paths.Given as goal

abbrev pub invariant-loop-p : goal.invariant-loop-p
invariant-loop-p l = record {
  count : length l.drivers.items ≡ length l.netlist.nets;
  drivers : (cells : Cells) (ports : ℕ) → HasEntries l.netlist cells l.instance l.paths
      → AreDrivers l.netlist cells l.classes (IsDone l.netlist ports l.instance 0 0) l.fn.drivers.items
      → AreDrivers l.netlist cells l.classes (IsDone l.netlist ports l.instance l.p 0) l.drivers.items;
}
