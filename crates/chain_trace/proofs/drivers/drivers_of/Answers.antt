use Rattle.std.proofs.Common.{◌≡◌, ℕ, List, length, replicate, Bor, ap, sym, ◌∙◌, subst, arith}
use Rattle.cell_table.specs.declared.paths.ScanPath.{ScanPath}
use Rattle.chain_trace.specs.declared.tally.Tally.TheVariants.{Empty}
use Rattle.chain_trace.specs.Drivers.{AreDrivers, IsDone, HasEntries}
use Rattle.chain_trace.proofs.Finding.{drivers_start, drivers_all}
use Rattle.chain_trace.proofs.drivers.drivers_of.Goals as goal

pub loop-i-init : goal.loop-i-init
loop-i-init c =
    let n = c.args.netlist.now in
    let start = c.in_ok-drivers.ensures.value ∙ ap (λ (k : ℕ). replicate k Empty) (ap length c.as_slice.ensures.value) in
    record {
      count = c.put_ports.ensures.count;
      drivers = λ cells entries. c.put_ports.ensures.drivers cells (drivers_start n cells c.args.classes.now c.in_ok-drivers.drivers.items start);
    }

pub loop-i-preserved : goal.loop-i-preserved
loop-i-preserved c =
    let n = c.args.netlist.now in
    let i = c.loop-i.i in
    let here = c.index-entries-i.result in
    record {
      count = c.put_paths.ensures.count;
      drivers = λ cells entries.
          c.in_ok-put_paths.ensures.drivers cells (length n.ports)
          (subst (λ (e : Bor (List ScanPath)). HasEntries n cells i e.now) (sym c.index-entries-i.is) (entries.each i here (omega (arith, c.requires.count, c.loop-i-test.true))))
          (c.loop-i.invariant.drivers cells entries);
    }

pub returns : goal.returns
returns c =
    let n = c.args.netlist.now in
    let all : c.loop-i.i ≡ length n.instances = omega (arith, c.requires.count) in
    record {
      drivers = λ cells entries. drivers_all n cells c.args.classes.now c.loop-i.drivers.items
          (subst (λ (i : ℕ). AreDrivers n cells c.args.classes.now (IsDone n (length n.ports) i 0 0) c.loop-i.drivers.items) all (c.loop-i.invariant.drivers cells entries));
    }
