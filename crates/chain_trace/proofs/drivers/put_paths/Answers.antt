use Rattle.std.proofs.Common.{◌≡◌, ◌+◌, ℕ, ap, sym, ◌∙◌, subst, arith}
use Rattle.std.specs.Prelude.{Some}
use Rattle.std.proofs.lemmas.Option.{slice_get-get_or}
use Rattle.cell_table.specs.declared.paths.ScanPath.{ScanPath}
use Rattle.chain_trace.specs.Paths.{scan_path_at}
use Rattle.chain_trace.specs.Drivers.{AreDrivers, IsDone}
use Rattle.chain_trace.proofs.Ranges.{paths_within}
use Rattle.chain_trace.proofs.Finding.{instance_done}
use Rattle.chain_trace.proofs.drivers.put_paths.Goals as goal

pub loop-p-preserved : goal.loop-p-preserved
loop-p-preserved c =
    let n = c.args.netlist.now in
    let cs = c.args.classes.now in
    let i = c.args.instance in
    let index : c.in-Ok.path ≡ c.loop-p.p = omega (arith, c.in-Ok.ensures) in
    let here : ScanPath = c.index-paths-p.result in
    record {
      count = c.put_outs.ensures.count;
      drivers = λ cells ports entries ds.
          let at : scan_path_at n cells i c.in-Ok.path ≡ Some here =
          subst (λ (x : ℕ). scan_path_at n cells i x ≡ Some here) (sym index)
          (sym (entries c.loop-p.p) ∙ slice_get-get_or c.args.paths.now c.loop-p.p here c.loop-p-test.true ∙ ap (λ (x : ScanPath). Some x) (sym c.index-paths-p.is)) in
          subst (λ (x : ℕ). AreDrivers n cells cs (IsDone n ports i (x + 1) 0) c.put_outs.new.drivers.items) index
          (c.in_ok-put_outs.ensures.drivers cells ports at
          (subst (λ (x : ℕ). AreDrivers n cells cs (IsDone n ports i x 0) c.loop-p.drivers.items) (sym index) (c.loop-p.invariant.drivers cells ports entries ds)));
    }

pub returns-clause-drivers : goal.returns-clause-drivers
returns-clause-drivers c cells ports entries ds =
    instance_done c.args.netlist.now cells c.args.classes.now ports c.args.instance c.loop-p.p c.loop-p.drivers.items
    (paths_within c.args.netlist.now cells c.args.instance c.loop-p.p c.args.paths.now entries c.loop-p-test.false)
    (c.loop-p.invariant.drivers cells ports entries ds)
