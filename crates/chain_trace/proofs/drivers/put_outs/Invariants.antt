use Rattle.std.proofs.Common.{◌≡◌, ℕ, length}
use Rattle.std.specs.Prelude.{Some}
use Rattle.cell_table.specs.Cells.{Cells}
use Rattle.chain_trace.specs.Paths.{scan_path_at}
use Rattle.chain_trace.specs.Drivers.{AreDrivers, IsDone}
use Rattle.chain_trace.proofs.drivers.put_outs.Given as goal

abbrev pub invariant-loop-o : goal.invariant-loop-o
invariant-loop-o l = record {
  count : length l.drivers.items ≡ length l.netlist.nets;
  drivers : (cells : Cells) (ports : ℕ) → scan_path_at l.netlist cells l.instance l.path ≡ Some l.entry
      → AreDrivers l.netlist cells l.classes (IsDone l.netlist ports l.instance l.path 0) l.fn.drivers.items
      → AreDrivers l.netlist cells l.classes (IsDone l.netlist ports l.instance l.path l.o) l.drivers.items;
}
