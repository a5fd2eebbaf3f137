use Rattle.std.proofs.Common.{List, Bor, sym, subst}
use Rattle.cell_table.specs.declared.paths.ScanPath.{ScanPath}
use Rattle.chain_trace.specs.Drivers.{AreEntries}
use Rattle.chain_trace.proofs.tracer.Tracer.of.Goals as goal

pub invariant_of-result : goal.invariant_of-result
invariant_of-result c =
    let n = c.args.netlist.now in
    let cells = c.args.table.now in
    record {
      netlist = c.requires.netlist;
      classes_are = c.requires.classes;
      entries_are = c.in_ok-entries.ensures.entries;
      drivers_are = c.in_ok-drivers.ensures.drivers cells
          (subst (λ (es : List (Bor (List ScanPath))). AreEntries n cells es) (sym c.as_slice.ensures.value) c.in_ok-entries.ensures.entries);
    }
