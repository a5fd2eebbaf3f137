use Rattle.std.proofs.Common.{◌≡◌, ◌<◌, ℕ, length, get_or, ◌+◌, true, false, List, Vec, Global, ap, sym, subst, ◌∙◌, arith}
use Rattle.netlist_core.specs.declared.netlist.Port.{Port}
use Rattle.netlist_core.specs.declared.netlist.Direction.TheVariants.{Input}
use Rattle.chain_trace.specs.declared.path.Source.TheVariants as sources
use Rattle.chain_trace.specs.declared.tally.Tally.{Tally}
use Rattle.chain_trace.specs.Paths.{drives}
use Rattle.chain_trace.specs.Drivers.{AreDrivers, IsDone, IsPut}
use Rattle.chain_trace.proofs.Ranges.{class_within}
use Rattle.chain_trace.proofs.Finding.{port_skipped, port_put}
use Rattle.chain_trace.proofs.drivers.put_ports.Goals.{then-drives, else-drives}
use Rattle.chain_trace.proofs.drivers.put_ports.Goals as goal

abbrev first : Port
first = record { net = record { 0 = 0 }; direction = Input; line = 0 }

pub loop-port-preserved : goal.loop-port-preserved
loop-port-preserved c =
    let n = c.args.netlist.now in
    let cs = c.args.classes.now in
    let k = c.loop-port.port-index in
    let items : c.as_slice-port-items.result.now ≡ n.ports = c.as_slice-port-items.ensures.value in
    let lt : k < length n.ports = omega (arith, ap length items) in
    elim c.if-drives.branch [
      | then-drives w ↦ (
          let same = ap (λ (v : Vec Tally Global). v.items) w.drivers-is in
          record {
            count = ap length same ∙ w.put_at.ensures.len ∙ c.loop-port.invariant.count;
            drivers = λ cells ds.
                subst (AreDrivers n cells cs (IsDone n (k + 1) 0 0 0)) (sym same)
                (port_put n cells cs k first c.loop-port.drivers.items w.put_at.new.drivers.items lt
                (subst (λ (xs : List Port). drives (get_or xs k first).direction ≡ true) items (sym c.drives.ensures.value ∙ w.if-drives.true))
                (subst (λ (xs : List Port). IsPut c.loop-port.drivers.items w.put_at.new.drivers.items (get_or cs (get_or xs k first).net.0 0) (sources.Port (get_or xs k first).net)) items w.put_at.ensures.put)
                (c.loop-port.invariant.drivers cells ds));
          })
      | else-drives w ↦ (
          let same = ap (λ (v : Vec Tally Global). v.items) w.drivers-is in
          record {
            count = ap length same ∙ c.loop-port.invariant.count;
            drivers = λ cells ds.
                subst (AreDrivers n cells cs (IsDone n (k + 1) 0 0 0)) (sym same)
                (port_skipped n cells cs k first c.loop-port.drivers.items lt
                (subst (λ (xs : List Port). drives (get_or xs k first).direction ≡ false) items (sym c.drives.ensures.value ∙ w.if-drives.false))
                (c.loop-port.invariant.drivers cells ds));
          })
    ]

pub put_at-requires-clause-class : goal.put_at-requires-clause-class
put_at-requires-clause-class c =
    let n = c.args.netlist.now in
    let k = c.loop-port.port-index in
    let items : c.as_slice-port-items.result.now ≡ n.ports = c.as_slice-port-items.ensures.value in
    let lt : k < length n.ports = omega (arith, ap length items) in
    let within = class_within n c.args.classes.now (get_or n.ports k first).net.0 c.requires.classes (c.requires.netlist.port_nets k first lt) in
    subst (λ (xs : List Port). get_or c.args.classes.now (get_or xs k first).net.0 0 < length c.loop-port.drivers.items) (sym items) (omega (arith, within, c.loop-port.invariant.count))

pub returns-clause-drivers : goal.returns-clause-drivers
returns-clause-drivers c cells ds =
    let n = c.args.netlist.now in
    let len = ap length c.as_slice-port-items.ensures.value in
    let all : c.loop-port.port-index ≡ length n.ports = omega arith in
    subst (λ (k : ℕ). AreDrivers n cells c.args.classes.now (IsDone n k 0 0 0) c.loop-port.drivers.items) all (c.loop-port.invariant.drivers cells ds)
