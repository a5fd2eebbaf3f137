use Rattle.std.proofs.Common.{◌∙◌, ◌+◌, ◌<◌, length, get_or, take, ap, arith}
use Rattle.std.specs.List.{flat_map, zip}
use Rattle.chain_trace.specs.declared.path.Source.TheVariants as sources
use Rattle.net_edit.specs.Changes.{Change}
use Rattle.net_edit.specs.NewWires.{wired_tail}
use Rattle.net_edit.proofs.Beside.{flat_more, zip_more, zip_all}
use Rattle.net_edit.proofs.between.tails_of.Goals as goal

pub loop-i-preserved : goal.loop-i-preserved
loop-i-preserved c = λ fs has.
    let freed = c.args.freed.now in
    let numbers = c.args.numbers.now in
    let i = c.loop-i.i in
    let d : Change = record { port = record { 0 = 0 }; was = sources.Port (record { 0 = 0 }); now = sources.Port (record { 0 = 0 }) } in
    let l : i < length freed = omega (arith, c.min-i-end.ensures) in
    let m : i < length numbers = omega (arith, c.min-i-end.ensures) in
    flat_more (wired_tail c.args.netlist.now c.args.table.now fs) (zip (take i freed) (take i numbers)) (zip (take (i + 1) freed) (take (i + 1) numbers)) (get_or freed i d, get_or numbers i 0) c.loop-i.tails c.put_tail.new.tails
    (zip_more freed numbers i d 0 l m) (c.loop-i.invariant fs has) (c.in_ok-put_tail.ensures.value fs has)

pub returns : goal.returns
returns c = record {
  value = λ fs has. c.loop-i.invariant fs has ∙ ap (flat_map (wired_tail c.args.netlist.now c.args.table.now fs)) (zip_all c.args.freed.now c.args.numbers.now c.loop-i.i (omega (arith, c.min-i-end.ensures)));
}
