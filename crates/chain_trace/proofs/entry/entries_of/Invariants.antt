use Rattle.std.proofs.Common.{◌≡◌, ◌<◌, ℕ, List, length, get_or, Bor}
use Rattle.cell_table.specs.declared.paths.ScanPath.{ScanPath}
use Rattle.chain_trace.specs.Drivers.{HasEntries}
use Rattle.chain_trace.proofs.entry.entries_of.Given as goal

abbrev pub invariant-loop-i : goal.invariant-loop-i
invariant-loop-i l = record {
  count : length l.entries.items ≡ l.i;
  each : (k : ℕ) (d : Bor (List ScanPath)) → k < l.i → HasEntries l.netlist l.table k (get_or l.entries.items k d).now;
}
