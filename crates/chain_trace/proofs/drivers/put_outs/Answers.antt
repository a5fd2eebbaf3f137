use Rattle.std.proofs.Common.{◌≡◌, ℕ, length, get_or, List, ap, sym, subst, ◌∙◌, arith}
use Rattle.std.specs.Prelude.{Some, MatchOption}
use Rattle.std.specs.List.{slice_get}
use Rattle.std.proofs.lemmas.Option.{slice_get-get_or}
use Rattle.cell_table.specs.declared.paths.OutPin.{OutPin}
use Rattle.chain_trace.specs.declared.path.Step.{Step}
use Rattle.chain_trace.specs.declared.path.Source.TheVariants as sources
use Rattle.chain_trace.specs.Drivers.{IsPut}
use Rattle.chain_trace.proofs.Ranges.{blank, pin_within, are_within, source_is, outs_within}
use Rattle.chain_trace.proofs.Finding.{out_done, path_done}
use Rattle.chain_trace.proofs.drivers.put_outs.Goals as goal

pub put_at-requires-clause-net : goal.put_at-requires-clause-net
put_at-requires-clause-net c =
    (are_within c.args.netlist.now c.args.classes.now (length c.loop-o.drivers.items) c.net_of-net.result c.requires.classes c.loop-o.invariant.count
    (pin_within c.args.netlist.now c.args.instance (get_or c.as_slice-outs.result.now c.loop-o.o c.index-outs-o.result).pin c.net_of-net.result blank c.requires.netlist c.requires.instance c.net_of-net.ensures.value)).net_in

pub put_at-requires-clause-class : goal.put_at-requires-clause-class
put_at-requires-clause-class c =
    (are_within c.args.netlist.now c.args.classes.now (length c.loop-o.drivers.items) c.net_of-net.result c.requires.classes c.loop-o.invariant.count
    (pin_within c.args.netlist.now c.args.instance (get_or c.as_slice-outs.result.now c.loop-o.o c.index-outs-o.result).pin c.net_of-net.result blank c.requires.netlist c.requires.instance c.net_of-net.ensures.value)).class_in

pub loop-o-preserved : goal.loop-o-preserved
loop-o-preserved c =
    let n = c.args.netlist.now in
    let i = c.args.instance in
    let p = c.args.path in
    let o = c.loop-o.o in
    let index : c.in-Ok.out ≡ o = omega (arith, c.in-Ok.ensures) in
    let outs : c.as_slice-outs.result.now ≡ c.args.entry.now.outs = c.as_slice-outs.ensures.value in
    let step : Step = record { instance = i; path = p; out = o } in
    let out : OutPin = get_or c.as_slice-outs.result.now o c.index-outs-o.result in
    let at : slice_get c.args.entry.now.outs o ≡ Some out =
    ap (λ (xs : List OutPin). slice_get xs o) (sym outs) ∙ slice_get-get_or c.as_slice-outs.result.now o c.index-outs-o.result c.loop-o-test.true in
    let put : MatchOption c.net_of-net.result (c.put_at.new.drivers.items ≡ c.loop-o.drivers.items) (λ m. IsPut c.loop-o.drivers.items c.put_at.new.drivers.items (get_or c.args.classes.now m.0 0) (sources.Out step)) =
    subst (λ (x : ℕ). MatchOption c.net_of-net.result (c.put_at.new.drivers.items ≡ c.loop-o.drivers.items) (λ m. IsPut c.loop-o.drivers.items c.put_at.new.drivers.items (get_or c.args.classes.now m.0 0) (sources.Out (record { instance = i; path = p; out = x })))) index c.put_at.ensures.put in
    record {
      count = c.put_at.ensures.len ∙ c.loop-o.invariant.count;
      drivers = λ cells ports entry ds.
          out_done n cells c.args.classes.now ports i p o c.loop-o.drivers.items c.put_at.new.drivers.items c.net_of-net.result
          (source_is n cells step c.args.entry.now out c.net_of-net.result blank entry at c.requires.instance c.net_of-net.ensures.value) put (c.loop-o.invariant.drivers cells ports entry ds);
    }

pub returns-clause-drivers : goal.returns-clause-drivers
returns-clause-drivers c cells ports entry ds =
    path_done c.args.netlist.now cells c.args.classes.now ports c.args.instance c.args.path c.loop-o.o c.loop-o.drivers.items
    (outs_within c.args.netlist.now cells c.args.instance c.args.path c.loop-o.o c.args.entry.now entry (omega (arith, c.loop-o-test.false, ap length c.as_slice-outs.ensures.value)))
    (c.loop-o.invariant.drivers cells ports entry ds)
